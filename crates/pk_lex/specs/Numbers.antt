-- Numbers (C99 6.4.8), and which of them are integer constants (C99 6.4.4.1) or floating ones.
use Rattle.std.specs.Prelude.{ℕ, ◌==◌, List, [], ◌∷◌, length, drop, codes, pos, Bool, true, false, not, ◌&&◌, ◌||◌, nat_le, Option, Some, None, if◌then◌else◌}
use Rattle.std.specs.List.{find, list_any, take_while}
use Rattle.std.specs.Option.{option_map}
use Rattle.pk_ctypes.specs.declared.types.IntType.{IntType}
use Rattle.pk_ctypes.specs.declared.types.IntType.TheVariants.{Char, SChar, UChar, Short, UShort, Int, UInt, Long, ULong, LLong, ULLong}
use Rattle.pk_ctypes.specs.Types.{is_signed_of, is_in_type}
use Rattle.pk_lex.specs.declared.numbers.Suffix.{Suffix}
use Rattle.pk_lex.specs.declared.numbers.Constant.{Constant}
use Rattle.pk_lex.specs.Bytes.{is_digit, is_part, is_digit_of, value_in, begins_with}
use Rattle.pk_ctypes.specs.Spellings.{lookup}

-- e, E, p or P
abbrev pub is_exponent : ℕ → Bool
is_exponent b = b == 101 || b == 69 || b == 112 || b == 80

-- a number goes on with a letter, a digit, a point, or a sign after an exponent's letter
abbrev pub goes_on : ℕ → ℕ → Bool
goes_on before b = is_part b || b == 46 || ((b == 43 || b == 45) && is_exponent before)

abbrev pub is_rest_of_number : ℕ → List ℕ → Bool
is_rest_of_number before [] = true
is_rest_of_number before (b ∷ bytes) = goes_on before b && is_rest_of_number b bytes

abbrev pub is_fraction : List ℕ → Bool
is_fraction [] = false
is_fraction (b ∷ bytes) = is_digit b && is_rest_of_number b bytes

-- a digit, or a point and a digit, and what a number goes on with
abbrev pub is_number : List ℕ → Bool
is_number [] = false
is_number (b ∷ bytes) = (is_digit b && is_rest_of_number b bytes) || (b == 46 && is_fraction bytes)

-- `0x` or `0X`
abbrev pub is_hexadecimal : List ℕ → Bool
is_hexadecimal [] = false
is_hexadecimal (b ∷ bytes) = b == 48 && (begins_with 120 bytes || begins_with 88 bytes)

abbrev pub base_of : List ℕ → ℕ
base_of number = if is_hexadecimal number then 16 else (if begins_with 48 number then 8 else 10)

-- the number without the mark of base 16
abbrev pub unmarked : List ℕ → List ℕ
unmarked number = if is_hexadecimal number then drop 2 number else number

abbrev pub digits_of : List ℕ → List ℕ
digits_of number = take_while (is_digit_of (base_of number)) (unmarked number)

-- whether there is a `u`, and how often `long`
abbrev pub suffix : Bool → ℕ → Suffix
suffix u l = record { unsigned = u; longs = l }

abbrev pub suffixes : List (List ℕ × Suffix)
suffixes =
    (codes "", suffix false 0) ∷ (codes "l", suffix false 1) ∷ (codes "L", suffix false 1)
    ∷ (codes "ll", suffix false 2) ∷ (codes "LL", suffix false 2)
    ∷ (codes "u", suffix true 0) ∷ (codes "U", suffix true 0)
    ∷ (codes "ul", suffix true 1) ∷ (codes "uL", suffix true 1) ∷ (codes "Ul", suffix true 1)
    ∷ (codes "UL", suffix true 1)
    ∷ (codes "lu", suffix true 1) ∷ (codes "lU", suffix true 1) ∷ (codes "Lu", suffix true 1)
    ∷ (codes "LU", suffix true 1)
    ∷ (codes "ull", suffix true 2) ∷ (codes "uLL", suffix true 2) ∷ (codes "Ull", suffix true 2)
    ∷ (codes "ULL", suffix true 2)
    ∷ (codes "llu", suffix true 2) ∷ (codes "llU", suffix true 2) ∷ (codes "LLu", suffix true 2)
    ∷ (codes "LLU", suffix true 2) ∷ []

unfoldable pub suffix_of : List ℕ → Option Suffix
suffix_of bytes = lookup suffixes bytes

-- how often a type's name has `long`
abbrev pub longs_of : IntType → ℕ
longs_of Char = 0
longs_of SChar = 0
longs_of UChar = 0
longs_of Short = 0
longs_of UShort = 0
longs_of Int = 0
longs_of UInt = 0
longs_of Long = 1
longs_of ULong = 1
longs_of LLong = 2
longs_of ULLong = 2

-- With `u` a constant's type is unsigned, and without one a decimal constant's is signed. It has at least as many `long`s as the suffix.
abbrev pub allows : Bool → Suffix → IntType → Bool
allows is_decimal s t =
    nat_le s.longs (longs_of t) && (if s.unsigned then not (is_signed_of t) else (is_signed_of t || not is_decimal))

-- the first type of those allowed that holds the value
abbrev pub type_of : Bool → Suffix → ℕ → Option IntType
type_of is_decimal s value =
    find (λ t. allows is_decimal s t && is_in_type t (pos value)) (Int ∷ UInt ∷ Long ∷ ULong ∷ LLong ∷ ULLong ∷ [])

abbrev pub constant : ℕ → IntType → Constant
constant value t = record { value = value; ty = t }

abbrev pub typed : Bool → ℕ → Option Suffix → Option Constant
typed is_decimal value None = None
typed is_decimal value (Some s) = option_map (constant value) (type_of is_decimal s value)

-- digits and a suffix, with a type that holds the value
unfoldable pub constant_of : List ℕ → Option Constant
constant_of number =
    let digits = digits_of number in
    let base = base_of number in
    if nat_le 1 (length digits)
    then typed (base == 10) (value_in base digits) (suffix_of (drop (length digits) (unmarked number))) else None

-- a point, or an exponent that isn't a digit of base 16
unfoldable pub is_floating : List ℕ → Bool
is_floating number =
    list_any (λ b. b == 46) number || (list_any (λ b. b == 101 || b == 69) number && not (is_hexadecimal number))
