-- The first wrong byte of a text that is no report.
use Rattle.std.specs.Prelude.{ℕ, ◌-◌, min, true, if◌then◌else◌, List, [], ◌∷◌, length, Option, Some, None}
use Rattle.pk_show.specs.declared.report.Row.{Row}
use Rattle.pk_show.specs.declared.report.Kind.{Kind}
use Rattle.pk_show.specs.declared.report.Kind.TheVariants as kind
use Rattle.pk_show.specs.Reports.{kind_of, may_stand, next_in, ended_lines, behind_lines}
use Rattle.pk_wrong_byte.specs.Pieces.{reached}
use Rattle.pk_wrong_byte.specs.Lines.{kind_left}

-- how many bytes a line leaves as one of this kind, where that may stand there
abbrev pub left_if : (before : Option Kind) → Kind → List ℕ → ℕ
left_if before k line = if may_stand before k then kind_left k (reached line true) else length line

abbrev pub least_left : (before : Option Kind) → List ℕ → ℕ
least_left before line =
    min (left_if before kind.Opening line) (min (left_if before kind.Heading line) (min (left_if before kind.NoRun line)
    (min (left_if before kind.Value line) (min (left_if before kind.Bound line) (min (left_if before kind.Access line)
    (left_if before kind.Counts line))))))

-- how many bytes of a line may stand there: as those of the kind that goes furthest
abbrev pub right_bytes : (before : Option Kind) → List ℕ → ℕ
right_bytes before line = length line - least_left before line

abbrev pub by_row : Option Row → (stopped : ℕ) → (Row → ℕ) → ℕ
by_row None stopped rest = stopped
by_row (Some r) stopped rest = rest r

-- of the first line that may not stand where it does, where the last one has no newline
abbrev pub in_first : List (List ℕ) → (last : List ℕ) → (before : Option Kind) → ℕ
in_first [] last before = right_bytes before last
in_first (line ∷ lines) last before =
    by_row (next_in before line) (right_bytes before line) (λ r. in_first lines last (Some (kind_of r)))

-- the first wrong byte in the first wrong line, counted from 0: that line's length, where it ends too early
unfoldable pub first_wrong_byte : List ℕ → ℕ
first_wrong_byte text = in_first (ended_lines text) (behind_lines text) None
