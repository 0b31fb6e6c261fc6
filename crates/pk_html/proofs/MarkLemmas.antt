-- The marks of a page are those of its tags.
use Rattle.std.proofs.Common.{◌≡◌, ℕ, zero, suc, ◌+◌, ◌/◌, ◌%◌, ◌<◌, ◌==◌, List, [], ◌∷◌, ◌++◌, refl, sym, ap, ◌∙◌, cond, Bool, true, false, arith, Some, None}
use Rattle.std.specs.Prelude.{ℤ, pos, negsuc, codes}
use Rattle.std.specs.List.{filter}
use Rattle.std.specs.Fmt.{decimal, signed_decimal, digit_glyph, digits_onto, digits}
use Rattle.std.proofs.lemmas.List.Elements.{filter-append}
use Rattle.std.proofs.lemmas.Bool.{ne_eqb, lt-ltb}
use Rattle.pk_html.specs.declared.parts.Part.{Part}
use Rattle.pk_html.specs.declared.parts.Part.TheVariants as part
use Rattle.pk_html.specs.Escapes.{reference_for, escape_by, escape, escaped}
use Rattle.pk_html.specs.Parts.{part_text, parts_text, tags_of}
use Rattle.pk_html.specs.Laws.{is_mark}

digit_is_no_mark : (d : ℕ) → d < 10 → is_mark (48 + d) ≡ false
digit_is_no_mark d h =
    rw (ne_eqb (48 + d) 60 (λ e. omega arith), ne_eqb (48 + d) 62 (λ e. omega arith), ne_eqb (48 + d) 34 (λ e. omega arith), ne_eqb (48 + d) 39 (λ e. omega arith)) refl

glyph_is_no_mark : (d : ℕ) → d < 10 → is_mark (digit_glyph false d) ≡ false
glyph_is_no_mark d h = rw (lt-ltb d 10 h) (digit_is_no_mark d h)

digits_hold_none : (k n : ℕ) (acc : List ℕ) → filter is_mark (digits_onto k 10 false n acc) ≡ filter is_mark acc
digits_hold_none zero n acc = refl
digits_hold_none (suc k) n acc =
    let small : n % 10 < 10 = omega arith in
    let none = glyph_is_no_mark (n % 10) small in
    elim (n / 10 == 0) as (λ (b : Bool). filter is_mark (cond b (digit_glyph false (n % 10) ∷ acc) (digits_onto k 10 false (n / 10) (digit_glyph false (n % 10) ∷ acc))) ≡ filter is_mark acc) [
      | true ↦ rw none refl
      | false ↦ digits_hold_none k (n / 10) (digit_glyph false (n % 10) ∷ acc) ∙ rw none refl
    ]

decimal_holds_none : (n : ℕ) → filter is_mark (decimal n) ≡ []
unfolding digits
decimal_holds_none n = digits_hold_none 64 n []

number_holds_none : (z : ℤ) → filter is_mark (signed_decimal z) ≡ []
number_holds_none (pos n) = decimal_holds_none n
number_holds_none (negsuc n) = decimal_holds_none (suc n)

by_tests : (b : ℕ) (amp lt gt quot tick : Bool) → lt ≡ (b == 60) → gt ≡ (b == 62) → quot ≡ (b == 34) → tick ≡ (b == 39) →
    filter is_mark (escape_by (cond amp (Some (codes "&amp;")) (cond lt (Some (codes "&lt;")) (cond gt (Some (codes "&gt;")) (cond quot (Some (codes "&quot;")) (cond tick (Some (codes "&#39;")) None))))) b) ≡ []
by_tests b true lt gt quot tick l g q t = refl
by_tests b false true gt quot tick l g q t = refl
by_tests b false false true quot tick l g q t = refl
by_tests b false false false true tick l g q t = refl
by_tests b false false false false true l g q t = refl
by_tests b false false false false false l g q t = rw (sym l, sym g, sym q, sym t) refl

escape_holds_none : (b : ℕ) → filter is_mark (escape b) ≡ []
unfolding reference_for
escape_holds_none b = by_tests b (b == 38) (b == 60) (b == 62) (b == 34) (b == 39) refl refl refl refl

text_holds_none : (text : List ℕ) → filter is_mark (escaped text) ≡ []
text_holds_none [] = refl
text_holds_none (b ∷ text) =
    filter-append is_mark (escape b) (escaped text) ∙ ap (λ (l : List ℕ). l ++ filter is_mark (escaped text)) (escape_holds_none b) ∙ text_holds_none text

without : (part rest tags : List ℕ) → filter is_mark part ≡ [] → filter is_mark rest ≡ filter is_mark tags →
    filter is_mark (part ++ rest) ≡ filter is_mark tags
without part rest tags none same =
    filter-append is_mark part rest ∙ ap (λ (l : List ℕ). l ++ filter is_mark rest) none ∙ same

pub marks_are_tags : (parts : List Part) → filter is_mark (parts_text parts) ≡ filter is_mark (parts_text (tags_of parts))
marks_are_tags [] = refl
marks_are_tags (part.Tag t ∷ parts) =
    let text = part_text (part.Tag t) in
    filter-append is_mark text (parts_text parts) ∙ ap (λ (l : List ℕ). filter is_mark text ++ l) (marks_are_tags parts) ∙ sym (filter-append is_mark text (parts_text (tags_of parts)))
marks_are_tags (part.Text s ∷ parts) = without (escaped s) (parts_text parts) (parts_text (tags_of parts)) (text_holds_none s) (marks_are_tags parts)
marks_are_tags (part.Count n ∷ parts) = without (decimal n) (parts_text parts) (parts_text (tags_of parts)) (decimal_holds_none n) (marks_are_tags parts)
marks_are_tags (part.Number z ∷ parts) = without (signed_decimal z) (parts_text parts) (parts_text (tags_of parts)) (number_holds_none z) (marks_are_tags parts)
