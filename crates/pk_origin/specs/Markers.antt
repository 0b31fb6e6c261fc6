-- Line markers, as GCC and Clang write them (GCC, "Preprocessor Output"): `# 12 "motor.c" 2` says that the next line is
-- line 12 of motor.c.
use Rattle.std.specs.Prelude.{ℕ, ◌+◌, ◌-◌, ◌*◌, ◌^◌, ◌==◌, List, [], ◌∷◌, length, drop, Bool, ◌&&◌, ◌||◌, nat_le, nat_lt, if◌then◌else◌, Option, Some, None}
use Rattle.std.specs.Option.{option_map}
use Rattle.std.specs.List.{list_all, take_while}
use Rattle.pk_lex.specs.Bytes.{is_blank, is_digit}
use Rattle.pk_lex.specs.Lines.{after_blanks}
use Rattle.pk_origin.specs.declared.names.Spelled.{Spelled}
use Rattle.pk_origin.specs.declared.names.Spelled.TheVariants.{Plain, Escaped, Digits}
use Rattle.pk_origin.specs.declared.names.Meant.{Meant}
use Rattle.pk_origin.specs.declared.names.Meant.TheVariants.{Ends, Fails, Gives, Goes}

-- the number of the next line, and its file's name
pub record MarkerOf : Type 0 where
  pub line : ℕ
  pub file : List ℕ

-- ---- the number

-- what digits write behind those of n, where it is less than 2^31 (C99 6.10.4)
abbrev pub number_from : ℕ → List ℕ → Option ℕ
number_from n [] = Some n
number_from n (b ∷ digits) =
    let next = 10 * n + (b - 48) in
    if nat_lt next (2 ^ 31) then number_from next digits else None

abbrev pub number_of : List ℕ → Option ℕ
number_of [] = None
number_of (b ∷ digits) = number_from 0 (b ∷ digits)

-- ---- the name

abbrev pub is_octal : ℕ → Bool
is_octal b = nat_le 48 b && nat_le b 55

-- a newline, a tab, or the byte itself
abbrev pub escaped : ℕ → ℕ
escaped b = if b == 110 then 10 else (if b == 116 then 9 else b)

-- What a byte of a name between quotes means: a backslash stands before a byte, or before three digits of base 8 that
-- write one.
abbrev pub meaning : Spelled → ℕ → Meant
meaning Plain b = if b == 34 then Ends else (if b == 92 then Goes Escaped else Gives b)
meaning Escaped b = if is_octal b then Goes (Digits 2 (b - 48)) else Gives (escaped b)
meaning (Digits left n) b =
    let next = 8 * n + (b - 48) in
    if is_octal b && nat_lt n 32 then (if left == 1 then Gives next else Goes (Digits 1 next)) else Fails

-- what may stand behind the name
abbrev pub is_flag : ℕ → Bool
is_flag b = is_blank b || is_digit b

abbrev pub name_behind : Meant → List ℕ → (Spelled → Option (List ℕ)) → Option (List ℕ)
name_behind Ends text rest = if list_all is_flag text then Some [] else None
name_behind Fails text rest = None
name_behind (Gives b) text rest = option_map (λ name. b ∷ name) (rest Plain)
name_behind (Goes state) text rest = rest state

-- the name that a text spells up to its closing quote, behind which only flags stand
abbrev pub name_from : List ℕ → Spelled → Option (List ℕ)
name_from [] state = None
name_from (b ∷ text) state = name_behind (meaning state b) text (λ next. name_from text next)

-- ---- the line

abbrev pub marker_with : Option ℕ → Option (List ℕ) → Option MarkerOf
marker_with None name = None
marker_with (Some n) None = None
marker_with (Some n) (Some name) = Some (record { line = n; file = name })

-- the name behind an opening quote
abbrev pub name_of : List ℕ → Option (List ℕ)
name_of [] = None
name_of (b ∷ text) = if b == 34 then name_from text Plain else None

abbrev pub after_digits : List ℕ → List ℕ
after_digits text = drop (length (take_while is_digit text)) text

-- what stands behind the `#`
abbrev pub marker_behind : List ℕ → Option MarkerOf
marker_behind text = marker_with (number_of (take_while is_digit text)) (name_of (after_blanks (after_digits text)))

abbrev pub marker_from : List ℕ → Option MarkerOf
marker_from [] = None
marker_from (b ∷ text) = if b == 35 then marker_behind (after_blanks text) else None

-- what a line says, where it is a line marker
abbrev pub marker_in : List ℕ → Option MarkerOf
marker_in line = marker_from (after_blanks line)
