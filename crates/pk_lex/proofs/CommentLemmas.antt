-- Where a comment ends.
use Rattle.std.proofs.Common.{◌≡◌, ℕ, suc, ◌+◌, ◌<◌, ◌≤◌, ◌==◌, false, ◌&&◌, List, [], ◌∷◌, ◌++◌, length, take, drop, get_or, refl, sym, ap, ◌∙◌, add-one, arith, length-take, take-append-drop}
use Rattle.std.proofs.lemmas.Bool.{or_from, and_right}
use Rattle.std.proofs.lemmas.List.{drop_more, get_or-take, append_assoc}
use Rattle.pk_lex.specs.WhiteSpace.{has_close}
use Rattle.pk_lex.specs.Steps.{IsFirstClose}

-- no `*/` stands at any place
abbrev NoClose : List ℕ → Type 0
NoClose text = (k : ℕ) → suc k < length text → (get_or text k 0 == 42 && get_or text (suc k) 0 == 47) ≡ false

no_close : (text : List ℕ) → NoClose text → has_close text ≡ false
no_close [] h = refl
no_close (b ∷ []) h = or_from (b == 42 && false) false (and_right (b == 42) false refl) refl
no_close (b ∷ c ∷ bytes) h =
    or_from (b == 42 && c == 47) (has_close (c ∷ bytes)) (h 0 (omega arith)) (no_close (c ∷ bytes) (λ k l. h (suc k) (omega (arith, l))))

pub no_close_at_all : (text : List ℕ) (i : ℕ) → length text ≤ i + 1 →
    ((k : ℕ) → k < i → (get_or text k 0 == 42 && get_or text (k + 1) 0 == 47) ≡ false) → has_close text ≡ false
no_close_at_all text i le h = no_close text (λ k l. rw (← add-one k) (h k (omega arith)))

pub first_close : (text : List ℕ) (i : ℕ) → i + 1 < length text → get_or text i 0 ≡ 42 → get_or text (i + 1) 0 ≡ 47 →
    ((k : ℕ) → k < i → (get_or text k 0 == 42 && get_or text (k + 1) 0 == 47) ≡ false) → IsFirstClose text i
first_close text i lt star slash h = record {
  fits = omega (arith, lt);
  before = no_close (take i text) before_it;
  cut = sym (take-append-drop i text) ∙ ap (λ l. take i text ++ l) from_it ∙ sym (append_assoc (take i text) (42 ∷ 47 ∷ []) (drop (i + 2) text));
}
  where
    before_it : NoClose (take i text)
    before_it k l =
        let le : suc k < i = omega (arith, l, length-take i text) in
        let low : k < i = omega (arith, le) in
        rw (get_or-take i text k 0 low, get_or-take i text (suc k) 0 le, ← add-one k) (h k low)

    from_it : drop i text ≡ 42 ∷ 47 ∷ drop (i + 2) text
    from_it =
        let two : i + 1 + 1 ≡ i + 2 = omega arith in
        let low : i < length text = omega arith in
        rw (drop_more text i 0 low, drop_more text (i + 1) 0 lt, star, slash, two) refl
