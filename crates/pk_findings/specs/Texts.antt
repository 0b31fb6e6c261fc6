-- A preprocessed text with its name, and where its places come from.
use Rattle.std.specs.Prelude.{◌≡◌, ℕ, ◌-◌, ◌^◌, ◌&&◌, Bool, List, length, nat_lt, nat_le, slice_index_or, unwrap_or}
use Rattle.pk_ctypes.specs.declared.places.Pos.{Pos}
use Rattle.pk_origin.specs.declared.sources.Origin.{Origin}
use Rattle.pk_origin.specs.Texts.{lines_of, line_at}
use Rattle.pk_origin.specs.Origins.{AreOrigins, first_origin, file_at}

-- the name is that of what no marker names
pub record TextOf : Type 0 where
  pub name : List ℕ
  pub lines : List (List ℕ)
  pub origins : List Origin

-- where a place's line comes from
unfoldable pub origin_at : TextOf → Pos → Origin
origin_at t at = slice_index_or t.origins (at.line - 1) first_origin

-- the file that an origin tells
unfoldable pub file_of : TextOf → Origin → List ℕ
file_of t o = unwrap_or (file_at t.lines o) t.name

-- the line of a place
abbrev pub line_of : TextOf → Pos → List ℕ
line_of t at = line_at t.lines (at.line - 1)

-- less than 2^30: longer texts aren't read
abbrev pub is_small : Pos → Bool
is_small at = nat_lt at.line (2 ^ 30) && nat_lt at.column (2 ^ 30)

-- a byte of this line
abbrev pub is_in_line : List ℕ → (column : ℕ) → Bool
is_in_line line column = nat_lt 0 column && nat_le column (length line)

-- a byte of one of these lines
abbrev pub is_among : List (List ℕ) → Pos → Bool
is_among lines at =
    nat_lt 0 at.line && nat_le at.line (length lines) && is_in_line (line_at lines (at.line - 1)) at.column

-- one of the text's bytes stands there
unfoldable pub is_within : TextOf → Pos → Bool
is_within t at = is_small at && is_among t.lines at

-- the text of this name and these bytes
pub record IsText (name bytes : List ℕ) (t : TextOf) : Type 0 where
  pub called : t.name ≡ name
  pub lines : t.lines ≡ lines_of bytes
  pub origins : AreOrigins t.lines t.origins
