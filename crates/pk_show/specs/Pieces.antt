-- The pieces of a line: literals, the fields between them, and numbers.
use Rattle.std.specs.Prelude.{ℕ, zero, suc, ◌^◌, ◌==◌, ℤ, pos, negsuc, List, [], ◌∷◌, length, take, drop, Bool, true, false, not, ◌&&◌, nat_lt, if◌then◌else◌, Option, Some, None}
use Rattle.std.specs.Option.{option_map, option_and_then}
use Rattle.std.specs.List.{list_all, take_while}
use Rattle.std.specs.Fmt.{decimal}
use Rattle.std.specs.Str.Parse.{digits_value}
use Rattle.pk_ctypes.specs.declared.faults.Fault.{Fault}
use Rattle.pk_ctypes.specs.declared.faults.Fault.TheVariants.{Index, DivZero, Overflow, Shift, Assert}
use Rattle.pk_ctypes.specs.declared.places.Pos.{Pos}
use Rattle.pk_ctypes.specs.Words.{fault_text}
use Rattle.pk_lex.specs.Bytes.{is_letter, is_part, begins_with, same}

infixl 10 ◌>>=◌
abbrev pub ◌>>=◌ : {A B : Type 0} → Option A → (A → Option B) → Option B
o >>= f = option_and_then f o

abbrev pub if_true : {A : Type 0} → Bool → A → Option A
if_true true a = Some a
if_true false a = None

-- what stands behind a literal that a text begins with
unfoldable pub strip : List ℕ → List ℕ → Option (List ℕ)
strip literal text = if same (take (length literal) text) literal then Some (drop (length literal) text) else None

-- the bytes up to the first one that a literal begins with
abbrev pub field_of : List ℕ → List ℕ → List ℕ
field_of literal text = take_while (λ b. not (begins_with b literal)) text

-- The field before a literal, and what stands behind it. The literal's first byte doesn't stand in the field.
unfoldable pub cut : List ℕ → List ℕ → Option (List ℕ × List ℕ)
cut literal text =
    let field = field_of literal text in
    option_map (λ rest. (field, rest)) (strip literal (drop (length field) text))

-- no byte of the text is this one
abbrev pub lacks : ℕ → List ℕ → Bool
lacks c text = list_all (λ b. not (c == b)) text

-- the number whose decimal digits a text is
unfoldable pub magnitude_in : List ℕ → Option ℕ
magnitude_in text =
    let n = digits_value 10 text in
    if_true (same (decimal n) text && nat_lt n (2 ^ 127)) n

unfoldable pub count_in : List ℕ → Option ℕ
count_in text = magnitude_in text >>= (λ n. if_true (nat_lt n (2 ^ 64)) n)

abbrev pub negated : ℕ → Option ℤ
negated zero = None
negated (suc n) = Some (negsuc n)

-- the number that a text is, with a sign where it is below 0
unfoldable pub signed_in : List ℕ → Option ℤ
signed_in text =
    if begins_with 45 text then (magnitude_in (drop 1 text) >>= negated) else option_map pos (magnitude_in text)

-- an identifier (C99 6.4.2)
unfoldable pub is_identifier : List ℕ → Bool
is_identifier [] = false
is_identifier (b ∷ text) = is_letter b && list_all is_part text

abbrev pub identifier_in : List ℕ → Option (List ℕ)
identifier_in text = if_true (is_identifier text) text

abbrev pub with_column : ℕ → ℕ → Pos
with_column line column = record { line = line; column = column }

unfoldable pub place_in : List ℕ → List ℕ → Option Pos
place_in line column = do
  l ← count_in line
  c ← count_in column
  Some (with_column l c)

unfoldable pub fault_in : List ℕ → Option Fault
fault_in text =
    if same text (fault_text Index) then Some Index else
    (if same text (fault_text DivZero) then Some DivZero else
    (if same text (fault_text Overflow) then Some Overflow else
    (if same text (fault_text Shift) then Some Shift else
    (if same text (fault_text Assert) then Some Assert else None))))
