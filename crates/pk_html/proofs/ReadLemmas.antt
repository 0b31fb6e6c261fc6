-- A text that is written and read is itself.
use Rattle.std.proofs.Common.{◌≡◌, ℕ, ◌==◌, List, [], ◌∷◌, ◌++◌, refl, sym, ap, ◌∙◌, cond, Bool, true, false, Some, None}
use Rattle.std.specs.Prelude.{codes}
use Rattle.std.proofs.lemmas.Bool.{eqb-true}
use Rattle.pk_html.specs.Escapes.{reference_for, escape_by, escape, escaped}
use Rattle.pk_html.specs.Laws.{character, read_from}

is : (b c : ℕ) → true ≡ (b == c) → c ≡ b
is b c e = sym (eqb-true b c (sym e))

by_tests : (b : ℕ) (rest : List ℕ) (amp lt gt quot tick : Bool) → amp ≡ (b == 38) → lt ≡ (b == 60) → gt ≡ (b == 62) → quot ≡ (b == 34) → tick ≡ (b == 39) →
    read_from None (escape_by (cond amp (Some (codes "&amp;")) (cond lt (Some (codes "&lt;")) (cond gt (Some (codes "&gt;")) (cond quot (Some (codes "&quot;")) (cond tick (Some (codes "&#39;")) None))))) b ++ rest) ≡ b ∷ read_from None rest
unfolding character
by_tests b rest true lt gt quot tick a l g q t = ap (λ (c : ℕ). c ∷ read_from None rest) (is b 38 a)
by_tests b rest false true gt quot tick a l g q t = ap (λ (c : ℕ). c ∷ read_from None rest) (is b 60 l)
by_tests b rest false false true quot tick a l g q t = ap (λ (c : ℕ). c ∷ read_from None rest) (is b 62 g)
by_tests b rest false false false true tick a l g q t = ap (λ (c : ℕ). c ∷ read_from None rest) (is b 34 q)
by_tests b rest false false false false true a l g q t = ap (λ (c : ℕ). c ∷ read_from None rest) (is b 39 t)
by_tests b rest false false false false false a l g q t = rw (sym a) refl

byte_is_read : (b : ℕ) (rest : List ℕ) → read_from None (escape b ++ rest) ≡ b ∷ read_from None rest
unfolding reference_for
byte_is_read b rest = by_tests b rest (b == 38) (b == 60) (b == 62) (b == 34) (b == 39) refl refl refl refl refl

pub read_back : (text : List ℕ) → read_from None (escaped text) ≡ text
read_back [] = refl
read_back (b ∷ text) = byte_is_read b (escaped text) ∙ ap (λ (l : List ℕ). b ∷ l) (read_back text)
