-- How far a text goes as pieces of a line, one behind the other.
use Rattle.std.specs.Prelude.{ℕ, zero, suc, ◌==◌, not, ◌||◌, Bool, false, if◌then◌else◌, List, [], ◌∷◌, ◌++◌, codes, length, take, drop, count_by, is_some}
use Rattle.std.specs.List.{take_while, zip}
use Rattle.pk_lex.specs.Bytes.{is_part, same}
use Rattle.pk_show.specs.Pieces.{is_identifier, count_in, signed_in}

-- what stands behind the bytes that may stand there, and whether the pieces are whole so far
pub record ReachedOf : Type 0 where
  pub rest : List ℕ
  pub is_open : Bool

abbrev pub reached : List ℕ → Bool → ReachedOf
reached rest is_open = record { rest = rest; is_open = is_open }

-- ---- a literal

-- how many bytes two texts have in common at their beginning
abbrev pub common : List ℕ → List ℕ → ℕ
common literal text = length (take_while (λ p. p.0 == p.1) (zip text literal))

unfoldable pub literal : List ℕ → ReachedOf → ReachedOf
literal l r =
    if r.is_open then reached (drop (common l r.rest) r.rest) (same (take (common l r.rest) r.rest) l) else
    reached r.rest false

-- ---- a name

abbrev pub part_size : List ℕ → ℕ
part_size text = length (take_while is_part text)

-- letters and digits, if they are an identifier
abbrev pub name_size : List ℕ → ℕ
name_size text = if is_identifier (take (part_size text) text) then part_size text else 0

unfoldable pub name : ReachedOf → ReachedOf
name r =
    if r.is_open then reached (drop (name_size r.rest) r.rest) (is_identifier (take (name_size r.rest) r.rest)) else
    reached r.rest false

-- ---- numbers

-- how many bytes of the rest each make a beginning that passes, behind what stands in front
abbrev pub passing : (List ℕ → Bool) → (front rest : List ℕ) → ℕ
passing test front [] = 0
passing test front (b ∷ rest) =
    if test (front ++ b ∷ []) then suc (passing test (front ++ b ∷ []) rest) else 0

abbrev pub is_count : List ℕ → Bool
is_count text = is_some (count_in text)

abbrev pub is_number : List ℕ → Bool
is_number text = is_some (signed_in text)

-- a number, or the sign of one
abbrev pub begins_number : List ℕ → Bool
begins_number text = is_number text || same text (codes "-")

abbrev pub count_size : List ℕ → ℕ
count_size = passing is_count []

abbrev pub number_size : List ℕ → ℕ
number_size = passing begins_number []

unfoldable pub count : ReachedOf → ReachedOf
count r =
    if r.is_open then reached (drop (count_size r.rest) r.rest) (is_count (take (count_size r.rest) r.rest)) else
    reached r.rest false

unfoldable pub number : ReachedOf → ReachedOf
number r =
    if r.is_open then reached (drop (number_size r.rest) r.rest) (is_number (take (number_size r.rest) r.rest)) else
    reached r.rest false

-- ---- places and paths

abbrev pub place : ReachedOf → ReachedOf
place r = count (literal (codes ":") (count r))

abbrev pub call : ReachedOf → ReachedOf
call r = place (literal (codes "@") (name (literal (codes ">") r)))

abbrev pub calls : ℕ → ReachedOf → ReachedOf
calls zero r = r
calls (suc n) r = calls n (call r)

-- how many calls a path begins, up to a blank
abbrev pub call_count : List ℕ → ℕ
call_count text = count_by (λ b. b == 62) (take_while (λ b. not (b == 32)) text)

abbrev pub path : ReachedOf → ReachedOf
path r = calls (call_count (name r).rest) (name r)
