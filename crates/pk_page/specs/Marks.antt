-- The marks of a text as a table: a row for each line, with what stands at each of its bytes.
use Rattle.std.specs.Prelude.{◌≡◌, ℕ, ◌+◌, ◌-◌, ◌<◌, List, [], length, map, fold, replicate, ◌&&◌, nat_lt, if◌then◌else◌, Option, Some, None, slice_index_or, slice_set}
use Rattle.pk_findings.specs.Operations.{OperationOf}
use Rattle.pk_findings.specs.Words.{verdict_of}
use Rattle.pk_page.specs.declared.marks.Mark.{Mark}
use Rattle.pk_page.specs.Source.{mark_of, joined_with, mark_at, line_in}

-- one more mark at byte k of a row
unfoldable pub marked : List (Option Mark) → ℕ → Mark → List (Option Mark)
marked row k m = slice_set row k (Some (joined_with (slice_index_or row k None) m))

unfoldable pub marked_in : List (List (Option Mark)) → (line k : ℕ) → Mark → List (List (Option Mark))
marked_in rows line k m = slice_set rows line (marked (slice_index_or rows line []) k m)

-- places are counted from 1
unfoldable pub marked_by : List (List (Option Mark)) → OperationOf → List (List (Option Mark))
marked_by rows o =
    if nat_lt 0 o.at.line && nat_lt 0 o.at.column then
    marked_in rows (o.at.line - 1) (o.at.column - 1) (mark_of (verdict_of o)) else rows

abbrev pub blank : List (List ℕ) → List (List (Option Mark))
blank = map (λ line. replicate (length line) None)

abbrev pub marks_of : List (List ℕ) → List OperationOf → List (List (Option Mark))
marks_of lines = fold marked_by (blank lines)

-- the table has what the operations say of each byte
pub record AreMarks (lines : List (List ℕ)) (operations : List OperationOf) (rows : List (List (Option Mark))) :
    Type 0 where
  pub size : length rows ≡ length lines
  pub sizes : (k : ℕ) → k < length lines → length (slice_index_or rows k []) ≡ length (line_in lines k)
  pub each : (k j : ℕ) → k < length lines → j < length (line_in lines k) →
      slice_index_or (slice_index_or rows k []) j None ≡ mark_at operations (k + 1) (j + 1)
