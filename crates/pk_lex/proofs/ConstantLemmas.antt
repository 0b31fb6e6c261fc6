-- Integer constants, from their digits and their suffix.
use Rattle.std.proofs.Common.{◌≡◌, ℕ, ◌^◌, ◌≤◌, ◌==◌, Bool, true, false, cond, ◌&&◌, Option, Some, None, List, [], ◌∷◌, length, take, drop, refl, sym, ap, ◌∙◌, arith}
use Rattle.std.specs.Prelude.{pos, nat_le, int_le}
use Rattle.std.specs.List.{list_all, find, take_while}
use Rattle.std.specs.Option.{option_map}
use Rattle.std.proofs.lemmas.Bool.{and_right, lt-leb, le-leb}
use Rattle.std.proofs.lemmas.List.Folds.{length-prefix_len}
use Rattle.pk_ctypes.specs.declared.types.IntType.{IntType}
use Rattle.pk_ctypes.specs.declared.types.IntType.TheVariants.{Char, SChar, UChar, Short, UShort, Int, UInt, Long, ULong, LLong, ULLong}
use Rattle.pk_ctypes.specs.Types.{low_of, is_in_type}
use Rattle.pk_lex.specs.declared.numbers.Suffix.{Suffix}
use Rattle.pk_lex.specs.declared.numbers.Constant.{Constant}
use Rattle.pk_lex.specs.Bytes.{is_digit_of, value_in}
use Rattle.pk_lex.specs.Numbers.{base_of, unmarked, digits_of, suffix_of, allows, constant, typed, constant_of}
use Rattle.pk_lex.proofs.Longest.{run_longest}

-- a number cut into digits and a suffix
pub record IsCut (number text digits rest : List ℕ) (base count : ℕ) : Type 0 where
  pub base_is : base ≡ base_of number
  pub text_is : text ≡ unmarked number
  pub count_is : count ≡ length (take_while (is_digit_of base) text)
  pub front : digits ≡ take count text
  pub back : rest ≡ drop count text

digits_run : {number text digits rest : List ℕ} {base count : ℕ} → IsCut number text digits rest base count → digits ≡ take_while (is_digit_of base) text
digits_run {text = text} {base = base} c = c.front ∙ ap (λ n. take n text) (c.count_is ∙ length-prefix_len (is_digit_of base) text)

pub cut_digits : {number text digits rest : List ℕ} {base count : ℕ} → IsCut number text digits rest base count → list_all (is_digit_of base) digits ≡ true
cut_digits {text = text} {base = base} c = ap (list_all (is_digit_of base)) (digits_run c) ∙ (run_longest (is_digit_of base) text).is

digits_are : {number text digits rest : List ℕ} {base count : ℕ} → IsCut number text digits rest base count → digits_of number ≡ digits
digits_are {number} {base = base} c = sym (digits_run c ∙ ap (λ t. take_while (is_digit_of base) t) c.text_is ∙ ap (λ b. take_while (is_digit_of b) (unmarked number)) c.base_is)

abbrev Whole : List ℕ → List ℕ → Option Constant
Whole number digits =
    cond (nat_le 1 (length digits)) (typed (base_of number == 10) (value_in (base_of number) digits) (suffix_of (drop (length digits) (unmarked number)))) None

whole : {number text digits rest : List ℕ} {base count : ℕ} → IsCut number text digits rest base count → constant_of number ≡ Whole number digits
unfolding constant_of
whole {number} c = ap (Whole number) (digits_are c)

pub no_digits : {number text digits rest : List ℕ} {base count : ℕ} → IsCut number text digits rest base count → length digits ≡ 0 → None ≡ constant_of number
no_digits {number} {digits = digits} c e = sym (whole c ∙ ap (λ n. cond (nat_le 1 n) (typed (base_of number == 10) (value_in (base_of number) digits) (suffix_of (drop (length digits) (unmarked number)))) None) e)

pub some_digits : {number text digits rest : List ℕ} {base count : ℕ} → IsCut number text digits rest base count → 1 ≤ length digits →
    constant_of number ≡ typed (base == 10) (value_in base digits) (suffix_of rest)
some_digits {number} {text} {digits} {rest} {base} {count} c le =
    whole c
    ∙ ap (λ t. cond t (typed (base_of number == 10) (value_in (base_of number) digits) (suffix_of (drop (length digits) (unmarked number)))) None) (le-leb 1 (length digits) le)
    ∙ ap (λ r. typed (base_of number == 10) (value_in (base_of number) digits) (suffix_of r)) (ap (λ n. drop n (unmarked number)) counted ∙ ap (drop count) (sym c.text_is) ∙ sym c.back)
    ∙ ap (λ b. typed (b == 10) (value_in b digits) (suffix_of rest)) (sym c.base_is)
  where
    counted : length digits ≡ count
    counted = ap length (digits_run c) ∙ sym c.count_is

find_none : {A : Type 0} (p : A → Bool) (xs : List A) → ((x : A) → p x ≡ false) → find p xs ≡ None
find_none p [] h = refl
find_none p (x ∷ xs) h = ap (λ t. cond t (Some x) (find p xs)) (h x) ∙ find_none p xs h

not_held : (t : IntType) (n : ℕ) → 2 ^ 64 ≤ n → is_in_type t (pos n) ≡ false
not_held Char n le = and_right (int_le (low_of Char) (pos n)) (nat_le n 127) (lt-leb n 127 (omega (arith, le)))
not_held SChar n le = and_right (int_le (low_of SChar) (pos n)) (nat_le n 127) (lt-leb n 127 (omega (arith, le)))
not_held UChar n le = and_right (int_le (low_of UChar) (pos n)) (nat_le n 255) (lt-leb n 255 (omega (arith, le)))
not_held Short n le = and_right (int_le (low_of Short) (pos n)) (nat_le n 32767) (lt-leb n 32767 (omega (arith, le)))
not_held UShort n le = and_right (int_le (low_of UShort) (pos n)) (nat_le n 65535) (lt-leb n 65535 (omega (arith, le)))
not_held Int n le = and_right (int_le (low_of Int) (pos n)) (nat_le n 2147483647) (lt-leb n 2147483647 (omega (arith, le)))
not_held UInt n le = and_right (int_le (low_of UInt) (pos n)) (nat_le n 4294967295) (lt-leb n 4294967295 (omega (arith, le)))
not_held Long n le = and_right (int_le (low_of Long) (pos n)) (nat_le n 9223372036854775807) (lt-leb n 9223372036854775807 (omega (arith, le)))
not_held ULong n le = and_right (int_le (low_of ULong) (pos n)) (nat_le n 18446744073709551615) (lt-leb n 18446744073709551615 (omega (arith, le)))
not_held LLong n le = and_right (int_le (low_of LLong) (pos n)) (nat_le n 9223372036854775807) (lt-leb n 9223372036854775807 (omega (arith, le)))
not_held ULLong n le = and_right (int_le (low_of ULLong) (pos n)) (nat_le n 18446744073709551615) (lt-leb n 18446744073709551615 (omega (arith, le)))

-- no type holds what 64 bits don't
pub too_large : (is_decimal : Bool) (s : Suffix) (n : ℕ) → 2 ^ 64 ≤ n → typed is_decimal n (Some s) ≡ None
too_large is_decimal s n le =
    ap (option_map (constant n)) (find_none (λ t. allows is_decimal s t && is_in_type t (pos n)) (Int ∷ UInt ∷ Long ∷ ULong ∷ LLong ∷ ULLong ∷ []) (λ t. and_right (allows is_decimal s t) (is_in_type t (pos n)) (not_held t n le)))
