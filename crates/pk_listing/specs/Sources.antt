-- The files that lines come from, where they are at hand.
use Rattle.std.specs.Prelude.{ℕ, ◌-◌, List, [], ◌∷◌, length, take, Bool, true, ◌&&◌, nat_lt, nat_le, if◌then◌else◌, Option, Some, None, slice_index_or}
use Rattle.pk_ctypes.specs.declared.places.Pos.{Pos}
use Rattle.pk_lex.specs.Bytes.{same}
use Rattle.pk_findings.specs.Texts.{TextOf, origin_at, file_of}

pub record SourceOf : Type 0 where
  pub name : List ℕ
  pub lines : List (List ℕ)

-- the lines of the first file of this name
abbrev pub lines_named : List SourceOf → (name : List ℕ) → List (List ℕ)
lines_named [] name = []
lines_named (s ∷ sources) name = if same s.name name then s.lines else lines_named sources name

-- lines are counted from 1
abbrev pub line_numbered : List (List ℕ) → ℕ → Option (List ℕ)
line_numbered lines n =
    if nat_lt 0 n && nat_le n (length lines) then Some (slice_index_or lines (n - 1) []) else None

-- the line of the file that a place comes from
unfoldable pub own_line : List SourceOf → TextOf → Pos → Option (List ℕ)
own_line sources t at =
    line_numbered (lines_named sources (file_of t (origin_at t at))) (origin_at t at).line

-- The preprocessed line is the file's own up to a column: neither a macro nor a comment stands before it.
abbrev pub is_own : Option (List ℕ) → (line : List ℕ) → (column : ℕ) → Bool
is_own None line column = true
is_own (Some own) line column = same (take column own) (take column line)
