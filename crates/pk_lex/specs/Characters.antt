-- Character constants (C99 6.4.4.4) and strings (C99 6.4.5).
use Rattle.std.specs.Prelude.{ℕ, ◌==◌, ◌-◌, ℤ, pos, List, [], ◌∷◌, ◌++◌, length, take, drop, codes, Bool, false, not, ◌&&◌, nat_le, is_some, Option, Some, None, if◌then◌else◌}
use Rattle.std.specs.List.{list_all}
use Rattle.std.specs.Option.{option_map}
use Rattle.pk_ctypes.specs.declared.types.IntType.TheVariants.{Char}
use Rattle.pk_ctypes.specs.Types.{wrapped}
use Rattle.pk_lex.specs.Bytes.{is_digit_of, is_hexadecimal_digit, value_in, is_newline, same}
use Rattle.pk_ctypes.specs.Spellings.{lookup}

-- the code that a backslash and one byte after it stand for
abbrev pub simple_escapes : List (List ℕ × ℕ)
simple_escapes =
    (codes "'", 39) ∷ (codes "\"", 34) ∷ (codes "?", 63) ∷ (codes "\\", 92)
    ∷ (codes "a", 7) ∷ (codes "b", 8) ∷ (codes "f", 12) ∷ (codes "n", 10) ∷ (codes "r", 13) ∷ (codes "t", 9)
    ∷ (codes "v", 11) ∷ []

-- one to three digits, and a code of at most 255
abbrev pub octal_code : List ℕ → Option ℕ
octal_code digits =
    if list_all (is_digit_of 8) digits && nat_le (length digits) 3 && nat_le (value_in 8 digits) 255
    then Some (value_in 8 digits) else None

-- one or two digits
abbrev pub hexadecimal_code : List ℕ → Option ℕ
hexadecimal_code digits =
    if list_all is_hexadecimal_digit digits && nat_le 1 (length digits) && nat_le (length digits) 2
    then Some (value_in 16 digits) else None

-- what stands after a backslash
abbrev pub escape_code : List ℕ → Option ℕ
escape_code [] = None
escape_code (b ∷ bytes) =
    if is_digit_of 8 b then octal_code (b ∷ bytes)
    else (if b == 120 then hexadecimal_code bytes else lookup simple_escapes (b ∷ bytes))

-- one byte that is printed, other than `'` and `\`
abbrev pub plain_code : ℕ → List ℕ → Option ℕ
plain_code b bytes = if nat_le 32 b && nat_le b 126 && not (b == 39) && same bytes [] then Some b else None

-- what stands between the quotes
abbrev pub code_of : List ℕ → Option ℕ
code_of [] = None
code_of (b ∷ bytes) = if b == 92 then escape_code bytes else plain_code b bytes

abbrev pub between_quotes : List ℕ → List ℕ
between_quotes word = take (length word - 2) (drop 1 word)

-- a quote, what has a code, and a quote
unfoldable pub is_character : List ℕ → Bool
is_character word = same (codes "'" ++ between_quotes word ++ codes "'") word && is_some (code_of (between_quotes word))

-- the code converted to char
unfoldable pub character_of : List ℕ → Option ℤ
character_of word = option_map (λ code. wrapped Char (pos code)) (code_of (between_quotes word))

-- Bytes up to the first quote that isn't escaped, with no newline. The first argument says whether the byte before them is a backslash that escapes.
abbrev pub is_rest_of_string : Bool → List ℕ → Bool
is_rest_of_string escaped [] = false
is_rest_of_string escaped (b ∷ bytes) =
    if is_newline b then false else
    if escaped then is_rest_of_string false bytes else
    if b == 34 then same bytes [] else is_rest_of_string (b == 92) bytes

abbrev pub is_string : List ℕ → Bool
is_string [] = false
is_string (b ∷ bytes) = b == 34 && is_rest_of_string false bytes
