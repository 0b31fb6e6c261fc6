-- Where a character constant ends.
use Rattle.std.proofs.Common.{◌≡◌, ℕ, suc, ◌+◌, ◌-◌, ◌<◌, ◌≤◌, ◌==◌, Bool, true, false, cond, not, ◌&&◌, is_some, Some, None, List, [], ◌∷◌, ◌++◌, length, take, drop, get_or, refl, sym, ap, ◌∙◌, arith, length-append, take-append-drop}
use Rattle.std.specs.Prelude.{nat_le, nat_eq}
use Rattle.std.specs.List.{list_all, take_while, prefix_len}
use Rattle.std.specs.Cmp.Lexicographic.{same_text}
use Rattle.std.proofs.lemmas.Bool.{and_parts, and_from, eqb-true, eq-eqb}
use Rattle.std.proofs.lemmas.Bool.Decides.{nat_tests}
use Rattle.std.proofs.lemmas.List.{take_more, take_at, append_assoc, length-take-le, get_or_at}
use Rattle.std.proofs.lemmas.List.Folds.{length-prefix_len}
use Rattle.pk_lex.specs.Bytes.{is_digit_of, is_hexadecimal_digit, value_in, same}
use Rattle.pk_ctypes.specs.Spellings.{lookup}
use Rattle.pk_lex.specs.Words.{IsLongest, BeginsNone}
use Rattle.pk_lex.specs.Steps.{is_unquoted, quote_after_escape, quote_at}
use Rattle.pk_lex.specs.Characters.{simple_escapes, octal_code, hexadecimal_code, escape_code, plain_code, code_of, between_quotes, is_character}
use Rattle.pk_lex.proofs.PunctuatorLemmas.{looked_up}

-- a run before a byte that isn't of it
run_before : (p : ℕ → Bool) (bytes rest : List ℕ) (b : ℕ) → list_all p bytes ≡ true → p b ≡ false → prefix_len p (bytes ++ b ∷ rest) ≡ length bytes
run_before p [] rest b h n = ap (λ t. cond t (1 + prefix_len p rest) 0) n
run_before p (c ∷ bytes) rest b h n = by_test (p c) h (λ g. run_before p bytes rest b g n)
  where
    by_test : (t : Bool) → (t && list_all p bytes) ≡ true → (list_all p bytes ≡ true → prefix_len p (bytes ++ b ∷ rest) ≡ length bytes) →
        cond t (1 + prefix_len p (bytes ++ b ∷ rest)) 0 ≡ suc (length bytes)
    by_test true g more = let e = more g in omega (arith, e)
    by_test false g more = cc

unquoted_before : (bytes rest : List ℕ) → list_all is_unquoted bytes ≡ true → length (take_while is_unquoted (bytes ++ 39 ∷ rest)) ≡ length bytes
unquoted_before bytes rest h = length-prefix_len is_unquoted (bytes ++ 39 ∷ rest) ∙ run_before is_unquoted bytes rest 39 h refl

digit_unquoted : (b : ℕ) → is_hexadecimal_digit b ≡ true → is_unquoted b ≡ true
digit_unquoted b h = grind (arith, nat_tests)

digits_unquoted : (bytes : List ℕ) → list_all is_hexadecimal_digit bytes ≡ true → list_all is_unquoted bytes ≡ true
digits_unquoted [] h = refl
digits_unquoted (b ∷ bytes) h =
    let e = and_parts (is_hexadecimal_digit b) (list_all is_hexadecimal_digit bytes) h in
    and_from (is_unquoted b) (list_all is_unquoted bytes) (digit_unquoted b e.0) (digits_unquoted bytes e.1)

octal_unquoted : (bytes : List ℕ) → list_all (is_digit_of 8) bytes ≡ true → list_all is_unquoted bytes ≡ true
octal_unquoted [] h = refl
octal_unquoted (b ∷ bytes) h =
    let e = and_parts (is_digit_of 8 b) (list_all (is_digit_of 8) bytes) h in
    let d = and_parts (is_hexadecimal_digit b) _ e.0 in
    and_from (is_unquoted b) (list_all is_unquoted bytes) (digit_unquoted b d.0) (octal_unquoted bytes e.1)

some_if : {A : Type 0} (t : Bool) (x : A) → is_some (cond t (Some x) None) ≡ true → t ≡ true
some_if true x h = refl
some_if false x h = cc

no_more : (b : ℕ) (bytes : List ℕ) → nat_eq (length (b ∷ bytes)) 1 ≡ true → list_all is_unquoted bytes ≡ true
no_more b [] h = refl
no_more b (c ∷ bytes) h = absurd (let e = eqb-true (length (b ∷ c ∷ bytes)) 1 h in omega (arith, e))

-- only the first byte after the backslash may be a quote
escape_unquoted : (b : ℕ) (bytes : List ℕ) → is_some (escape_code (b ∷ bytes)) ≡ true → list_all is_unquoted bytes ≡ true
escape_unquoted b bytes h = by_tests (is_digit_of 8 b) (b == 120) h
  where
    by_tests : (s t : Bool) → is_some (cond s (octal_code (b ∷ bytes)) (cond t (hexadecimal_code bytes) (lookup simple_escapes (b ∷ bytes)))) ≡ true → list_all is_unquoted bytes ≡ true
    by_tests true t h =
        let e = some_if (list_all (is_digit_of 8) (b ∷ bytes) && nat_le (length (b ∷ bytes)) 3 && nat_le (value_in 8 (b ∷ bytes)) 255) (value_in 8 (b ∷ bytes)) h in
        let f = and_parts (list_all (is_digit_of 8) (b ∷ bytes) && nat_le (length (b ∷ bytes)) 3) (nat_le (value_in 8 (b ∷ bytes)) 255) e in
        let g = and_parts (list_all (is_digit_of 8) (b ∷ bytes)) (nat_le (length (b ∷ bytes)) 3) f.0 in
        (and_parts (is_unquoted b) (list_all is_unquoted bytes) (octal_unquoted (b ∷ bytes) g.0)).1
    by_tests false true h =
        let e = some_if (list_all is_hexadecimal_digit bytes && nat_le 1 (length bytes) && nat_le (length bytes) 2) (value_in 16 bytes) h in
        let f = and_parts (list_all is_hexadecimal_digit bytes && nat_le 1 (length bytes)) (nat_le (length bytes) 2) e in
        let g = and_parts (list_all is_hexadecimal_digit bytes) (nat_le 1 (length bytes)) f.0 in
        digits_unquoted bytes g.0
    by_tests false false h = no_more b bytes (looked_up ℕ (λ w. nat_eq (length w) 1) simple_escapes (b ∷ bytes) refl h)

-- what has a code ends at the quote
quote_after : (inside rest : List ℕ) → is_some (code_of inside) ≡ true → quote_at (inside ++ 39 ∷ rest) ≡ length inside
quote_after [] rest h = cc
quote_after (b ∷ bytes) rest h = by_test (b == 92) h
  where
    escaped : (l : List ℕ) → is_some (escape_code l) ≡ true → 1 + quote_after_escape (l ++ 39 ∷ rest) ≡ suc (length l)
    escaped [] h = cc
    escaped (c ∷ l) h = let e = unquoted_before l rest (escape_unquoted c l h) in omega (arith, e)

    plain : is_some (plain_code b bytes) ≡ true → list_all is_unquoted (b ∷ bytes) ≡ true
    plain h =
        let e = some_if (nat_le 32 b && nat_le b 126 && not (b == 39) && same bytes []) b h in
        let f = and_parts (nat_le 32 b && nat_le b 126 && not (b == 39)) (same bytes []) e in
        let g = and_parts (nat_le 32 b && nat_le b 126) (not (b == 39)) f.0 in
        let n : bytes ≡ [] = same_text bytes [] (sym f.1) in
        rw n (and_from (is_unquoted b) true g.1 refl)

    by_test : (t : Bool) → is_some (cond t (escape_code bytes) (plain_code b bytes)) ≡ true →
        cond t (1 + quote_after_escape (bytes ++ 39 ∷ rest)) (length (take_while is_unquoted (b ∷ bytes ++ 39 ∷ rest))) ≡ suc (length bytes)
    by_test true h = escaped bytes h
    by_test false h = unquoted_before (b ∷ bytes) rest (plain h)

same-refl : (bytes : List ℕ) → same bytes bytes ≡ true
same-refl [] = refl
same-refl (b ∷ bytes) = and_from (nat_eq b b) (same bytes bytes) (eq-eqb b b refl) (same-refl bytes)

between : (inside : List ℕ) → between_quotes (39 ∷ inside ++ 39 ∷ []) ≡ inside
between inside = let l = length-append inside (39 ∷ []) in take_at inside (39 ∷ []) (length (39 ∷ inside ++ 39 ∷ []) - 2) (omega (arith, l))

character_from : (inside : List ℕ) → is_some (code_of inside) ≡ true → is_character (39 ∷ inside ++ 39 ∷ []) ≡ true
unfolding is_character
character_from inside h = rw (between inside) (and_from _ (is_some (code_of inside)) (same-refl (39 ∷ inside ++ 39 ∷ [])) h)

-- a character constant at the beginning of a text
record Begins (text : List ℕ) (m : ℕ) (inside rest : List ℕ) : Type 0 where
  cut : text ≡ 39 ∷ inside ++ 39 ∷ rest
  size : m ≡ length inside + 2
  code : is_some (code_of inside) ≡ true

begins : (text : List ℕ) (m : ℕ) → m ≤ length text → is_character (take m text) ≡ true → Begins text m (between_quotes (take m text)) (drop m text)
unfolding is_character
begins text m le h =
    let word = take m text in
    let e = and_parts (same (39 ∷ between_quotes word ++ 39 ∷ []) word) (is_some (code_of (between_quotes word))) h in
    let f : 39 ∷ between_quotes word ++ 39 ∷ [] ≡ word = same_text (39 ∷ between_quotes word ++ 39 ∷ []) word (sym e.0) in
    let l = length-append (between_quotes word) (39 ∷ []) in
    let k = ap length f in
    let n = length-take-le m text le in
    record {
      cut = sym (take-append-drop m text) ∙ ap (λ w. w ++ drop m text) (sym f) ∙ ap (λ w. 39 ∷ w) (append_assoc (between_quotes word) (39 ∷ []) (drop m text));
      size = omega (arith, l, k, n);
      code = e.1;
    }

-- a text and what follows its first quote
tail_is : (b : ℕ) (rest bytes : List ℕ) → b ∷ rest ≡ 39 ∷ bytes → rest ≡ bytes
tail_is b rest bytes e = cc

module _ (text : List ℕ) (b : ℕ) (rest : List ℕ) (cut : text ≡ b ∷ rest) where
  -- it ends where it must
  ends_at : (m : ℕ) → m ≤ length text → is_character (take m text) ≡ true → (m ≡ quote_at rest + 2) × (is_some (code_of (take (quote_at rest) rest)) ≡ true) × (quote_at rest < length rest) × (get_or rest (quote_at rest) 0 ≡ 39)
  ends_at m le h =
      let s = begins text m le h in
      let inside = between_quotes (take m text) in
      let e : rest ≡ inside ++ 39 ∷ drop m text = tail_is b rest (inside ++ 39 ∷ drop m text) (sym cut ∙ s.cut) in
      let q : quote_at rest ≡ length inside = ap quote_at e ∙ quote_after inside (drop m text) s.code in
      let l = ap length e ∙ length-append inside (39 ∷ drop m text) in (
        omega (arith, s.size, q),
        ap (λ w. is_some (code_of w)) (ap (λ n. take n rest) q ∙ ap (take (length inside)) e ∙ take_at inside (39 ∷ drop m text) (length inside) refl) ∙ s.code,
        omega (arith, l, q),
        ap (λ n. get_or rest n 0) q ∙ ap (λ w. get_or w (length inside) 0) e ∙ get_or_at inside 39 (drop m text) 0 (length inside) refl,
      )

  pub no_character : (quote_at rest < length rest → get_or rest (quote_at rest) 0 ≡ 39 → is_some (code_of (take (quote_at rest) rest)) ≡ true → ⊥) → BeginsNone is_character text
  no_character none m le h = let e = ends_at m le h in none e.2 e.3 e.1

  pub longest_character : b ≡ 39 → quote_at rest < length rest → get_or rest (quote_at rest) 0 ≡ 39 → is_some (code_of (take (quote_at rest) rest)) ≡ true →
      IsLongest is_character text (quote_at rest + 2)
  longest_character f lt q h = record {
    fits = let l = ap length cut in omega (arith, l, lt);
    is = ap is_character front ∙ character_from (take (quote_at rest) rest) h;
    most = λ m le k. let e = (ends_at m le k).0 in omega (arith, e);
  }
    where
      front : take (quote_at rest + 2) text ≡ 39 ∷ take (quote_at rest) rest ++ 39 ∷ []
      front =
          let n : quote_at rest + 2 ≡ suc (quote_at rest + 1) = omega arith in
          rw (n, cut, f, take_more rest (quote_at rest) 0 lt, q) refl

pub empty_no_character : (text : List ℕ) → text ≡ [] → BeginsNone is_character text
empty_no_character text e m le h = let s = begins text m le h in let f = sym e ∙ s.cut in cc

first_is : (b : ℕ) (rest bytes : List ℕ) → b ∷ rest ≡ 39 ∷ bytes → b ≡ 39
first_is b rest bytes e = cc

pub other_no_character : (text : List ℕ) (b : ℕ) (rest : List ℕ) → text ≡ b ∷ rest → (b ≡ 39 → ⊥) → BeginsNone is_character text
other_no_character text b rest e n m le h = let s = begins text m le h in n (first_is b rest (between_quotes (take m text) ++ 39 ∷ drop m text) (sym e ∙ s.cut))
