-- Each piece is read back from its text, and only from it.
use Rattle.std.proofs.Common.{◌≡◌, ℕ, suc, ◌<◌, ◌≤◌, ◌^◌, ◌==◌, List, [], ◌∷◌, ◌++◌, length, take, drop, refl, sym, ap, ◌∙◌, cond, Bool, true, false, not, ◌&&◌, arith, Option, Some, None, nat_lt, nat_eq, take-append-drop, append_assoc, lit≤}
use Rattle.std.specs.Prelude.{ℤ, pos, negsuc, codes}
use Rattle.std.specs.List.{prefix_len}
use Rattle.std.specs.Fmt.{decimal, signed_decimal}
use Rattle.std.specs.Str.Parse.{digits_value, AllDigits}
use Rattle.std.proofs.Math.Numerals.{one-add}
use Rattle.std.proofs.Math.Seq.{take-append_seam, drop-append_seam}
use Rattle.std.proofs.lemmas.Bool.{and_from, and_parts, eq-eqb, eqb-true, ltb-true, lt-ltb}
use Rattle.std.proofs.lemmas.Fmt.{decimal_is_IsNumeral_wide}
use Rattle.std.specs.Cmp.Lexicographic.{same_text}
use Rattle.std.specs.Char.{digit_value}
use Rattle.pk_ctypes.specs.declared.places.Pos.{Pos}
use Rattle.pk_ctypes.specs.Places.{pos_text}
use Rattle.pk_lex.specs.Bytes.{begins_with, same}
use Rattle.pk_show.specs.Laws.{IsNumber}
use Rattle.pk_show.specs.Pieces.{if_true, strip, field_of, cut, lacks, magnitude_in, count_in, signed_in}

pub same-refl : (text : List ℕ) → same text text ≡ true
same-refl [] = refl
same-refl (b ∷ text) = and_from (nat_eq b b) (same text text) (eq-eqb b b refl) (same-refl text)

-- ---- literals

pub strip_read : (literal rest : List ℕ) → strip literal (literal ++ rest) ≡ Some rest
unfolding strip
strip_read literal rest = rw (take-append_seam literal rest, drop-append_seam literal rest, same-refl literal) refl

strip_told_by : (literal text rest : List ℕ) (is_same : Bool) → is_same ≡ same (take (length literal) text) literal →
    cond is_same (Some (drop (length literal) text)) None ≡ Some rest → text ≡ literal ++ rest
strip_told_by literal text rest true same e =
    let front : take (length literal) text ≡ literal = same_text _ _ same in
    let back : drop (length literal) text ≡ rest = cc e in
    sym (take-append-drop (length literal) text) ∙ ap (λ (l : List ℕ). l ++ drop (length literal) text) front ∙ ap (λ (l : List ℕ). literal ++ l) back
strip_told_by literal text rest false same e = absurd (cc e)

pub strip_told : (literal text rest : List ℕ) → strip literal text ≡ Some rest → text ≡ literal ++ rest
unfolding strip
strip_told literal text rest e = strip_told_by literal text rest (same (take (length literal) text) literal) refl e

-- ---- fields

pub field_length : (c : ℕ) (l field rest : List ℕ) → lacks c field ≡ true →
    prefix_len (λ b. not (begins_with b (c ∷ l))) (field ++ c ∷ rest) ≡ length field
field_length c l [] rest h = rw (eq-eqb c c refl) refl
field_length c l (b ∷ field) rest h =
    let both = and_parts (not (c == b)) (lacks c field) h in
    rw (both.0, one-add) (ap suc (field_length c l field rest both.1))

pub cut_read : (c : ℕ) (l field rest : List ℕ) → lacks c field ≡ true → cut (c ∷ l) (field ++ ((c ∷ l) ++ rest)) ≡ Some (field, rest)
unfolding cut
cut_read c l field rest h =
    let size = field_length c l field (l ++ rest) h in
    let whole : field_of (c ∷ l) (field ++ ((c ∷ l) ++ rest)) ≡ field =
    ap (λ (n : ℕ). take n (field ++ ((c ∷ l) ++ rest))) size ∙ take-append_seam field ((c ∷ l) ++ rest) in
    rw (whole, drop-append_seam field ((c ∷ l) ++ rest), strip_read (c ∷ l) rest) refl

-- ---- numbers

written : (n : ℕ) → n < 2 ^ 127 → digits_value 10 (decimal n) ≡ n
written n h = (decimal_is_IsNumeral_wide n (omega arith)).1

pub magnitude_read : (n : ℕ) (text : List ℕ) → n < 2 ^ 127 → text ≡ decimal n → magnitude_in text ≡ Some n
unfolding magnitude_in
magnitude_read n text h e =
    let small : nat_lt n (2 ^ 127) ≡ true = lt-ltb n (2 ^ 127) h in
    rw (e, written n h, same-refl (decimal n), small) refl

by_test : (text : List ℕ) (n : ℕ) (is_same is_small : Bool) → is_same ≡ same (decimal n) text → is_small ≡ nat_lt n (2 ^ 127) →
    ((k : ℕ) → k < 2 ^ 127 → text ≡ decimal k → ⊥) → if_true (is_same && is_small) n ≡ None
by_test text n true true same small none = absurd (none n (ltb-true n (2 ^ 127) (sym small)) (sym (same_text (decimal n) text same)))
by_test text n true false same small none = refl
by_test text n false is_small same small none = refl

pub magnitude_unread : (text : List ℕ) → ((n : ℕ) → n < 2 ^ 127 → text ≡ decimal n → ⊥) → magnitude_in text ≡ None
unfolding magnitude_in
magnitude_unread text none =
    by_test text (digits_value 10 text) (same (decimal (digits_value 10 text)) text) (nat_lt (digits_value 10 text) (2 ^ 127)) refl refl none

lacks_digit : (c d : ℕ) (is_same : Bool) → is_same ≡ (c == d) → 10 ≤ digit_value c → digit_value d < 10 → not is_same ≡ true
lacks_digit c d true e high low =
    let same : c ≡ d = eqb-true c d (sym e) in
    let f = ap digit_value same in
    absurd (omega (arith, f, high, low))
lacks_digit c d false e high low = refl

-- a byte that is no digit doesn't stand among digits
digits_lack : (c : ℕ) (digits : List ℕ) → 10 ≤ digit_value c → AllDigits 10 digits → lacks c digits ≡ true
digits_lack c [] high all = refl
digits_lack c (d ∷ digits) high all = and_from (not (c == d)) (lacks c digits) (lacks_digit c d (c == d) refl high all.0) (digits_lack c digits high all.1)

pub decimal_lacks : (c n : ℕ) → 10 ≤ digit_value c → n < 2 ^ 127 → lacks c (decimal n) ≡ true
decimal_lacks c n high h = digits_lack c (decimal n) high (decimal_is_IsNumeral_wide n (omega arith)).0.1

pub no_minus : (text : List ℕ) → lacks 45 text ≡ true → begins_with 45 text ≡ false
no_minus [] h = refl
no_minus (b ∷ text) h = told (b == 45) refl
  where
    told : (is_minus : Bool) → is_minus ≡ (b == 45) → is_minus ≡ false
    told false e = refl
    told true e =
        let same : b ≡ 45 = eqb-true b 45 (sym e) in
        let both = and_parts (not (45 == b)) (lacks 45 text) h in
        let f : (45 == b) ≡ true = eq-eqb 45 b (sym same) in
        let g : not true ≡ true = rw f at both.0 in
        absurd (cc g)

pub signed_read : (z : ℤ) → IsNumber z → signed_in (signed_decimal z) ≡ Some z
unfolding signed_in
signed_read (pos n) h = rw (no_minus (decimal n) (decimal_lacks 45 n (lit≤ tt) h), magnitude_read n (decimal n) h refl) refl
signed_read (negsuc n) h = rw (magnitude_read (suc n) (decimal (suc n)) h refl) refl

pub count_read : (n : ℕ) → n < 2 ^ 64 → count_in (decimal n) ≡ Some n
unfolding count_in
count_read n h = rw (magnitude_read n (decimal n) (omega arith) refl, lt-ltb n (2 ^ 64) h) refl

pub signed_lacks : (c : ℕ) (z : ℤ) → 10 ≤ digit_value c → not (c == 45) ≡ true → IsNumber z → lacks c (signed_decimal z) ≡ true
signed_lacks c (pos n) high other h = decimal_lacks c n high h
signed_lacks c (negsuc n) high other h = and_from (not (c == 45)) (lacks c (decimal (suc n))) other (decimal_lacks c (suc n) high h)

-- ---- what a text that isn't the number's lacks

pub not_written : (text : List ℕ) (number n : ℕ) (r : Option ℕ) (b : Bool) → r ≡ Some n → r ≡ Some number → text ≡ decimal n →
    b ≡ same (decimal number) text → b ≡ false → ⊥
not_written text number n r b e f digits_are test isnt =
    let equal : n ≡ number = cc in
    let digits : text ≡ decimal number = digits_are ∙ ap decimal equal in
    let yes : b ≡ true = test ∙ ap (λ (t : List ℕ). same (decimal number) t) digits ∙ same-refl (decimal number) in
    let g : true ≡ false = sym yes ∙ isnt in
    absurd (cc g)

pub too_great : (number n : ℕ) (r : Option ℕ) → r ≡ Some n → r ≡ Some number → n < 2 ^ 127 → 2 ^ 127 ≤ number → ⊥
too_great number n r e f small great =
    let equal : n ≡ number = cc in
    absurd (omega (arith, equal, small, great))

-- ---- places

pub place_onto : (at : Pos) (rest : List ℕ) → pos_text at ++ rest ≡ decimal at.line ++ (codes ":" ++ (decimal at.column ++ rest))
place_onto at rest = append_assoc (decimal at.line ++ codes ":") (decimal at.column) rest ∙ append_assoc (decimal at.line) (codes ":") (decimal at.column ++ rest)
