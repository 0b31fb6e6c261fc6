-- A whole report: which lines follow each other.
use Rattle.std.specs.Prelude.{◌≡◌, ℕ, suc, ◌-◌, ◌&&◌, Bool, true, false, List, [], ◌∷◌, take, length, slice_index_or, if◌then◌else◌, Option, Some, None, is_some}
use Rattle.std.specs.Option.{option_map}
use Rattle.pk_lex.specs.Bytes.{same}
use Rattle.pk_origin.specs.Texts.{lines_of}
use Rattle.pk_show.specs.declared.report.Row.{Row}
use Rattle.pk_show.specs.declared.report.Row.TheVariants as row
use Rattle.pk_show.specs.declared.report.Kind.{Kind}
use Rattle.pk_show.specs.declared.report.Kind.TheVariants as kind
use Rattle.pk_show.specs.declared.report.ReadError.{ReadError}
use Rattle.pk_show.specs.declared.report.ReadError.TheVariants.{Refused, Memory}
use Rattle.pk_show.specs.Pieces.{◌>>=◌, if_true}
use Rattle.pk_show.specs.Paths.{path_in}
use Rattle.pk_show.specs.Rows.{no_run_text}
use Rattle.pk_show.specs.Reading.{opening_in, heading_in, value_in, bound_in, access_in, counts_in}

abbrev pub or_else : {A : Type 0} → Option A → Option A → Option A
or_else None other = other
or_else (Some a) other = Some a

-- the lines of a point
unfoldable pub point_row_in : List ℕ → Option Row
point_row_in line =
    or_else (option_map row.Heading (heading_in true line))
    (or_else (option_map row.Heading (heading_in false line))
    (or_else (if_true (same line no_run_text) row.NoRun)
    (or_else (option_map row.Value (value_in line)) (option_map row.Bound (bound_in line)))))

-- what a line is: no two kinds have the same beginning
unfoldable pub row_in : List ℕ → Option Row
row_in line =
    or_else (option_map row.Opening (opening_in line))
    (or_else (point_row_in line)
    (or_else (option_map row.Access (access_in line)) (option_map row.Counts (counts_in line))))

abbrev pub kind_of : Row → Kind
kind_of (row.Opening o) = kind.Opening
kind_of (row.Heading h) = kind.Heading
kind_of row.NoRun = kind.NoRun
kind_of (row.Value v) = kind.Value
kind_of (row.Bound b) = kind.Bound
kind_of (row.Access a) = kind.Access
kind_of (row.Counts c) = kind.Counts

-- behind the last line of a point stands the next point, an access or the counts
abbrev pub goes_on : Kind → Bool
goes_on kind.Opening = false
goes_on kind.Heading = true
goes_on kind.NoRun = false
goes_on kind.Value = false
goes_on kind.Bound = false
goes_on kind.Access = true
goes_on kind.Counts = true

abbrev pub follows_heading : Kind → Bool
follows_heading kind.Opening = false
follows_heading kind.Heading = true
follows_heading kind.NoRun = true
follows_heading kind.Value = true
follows_heading kind.Bound = false
follows_heading kind.Access = true
follows_heading kind.Counts = true

abbrev pub follows_value : Kind → Bool
follows_value kind.Opening = false
follows_value kind.Heading = true
follows_value kind.NoRun = false
follows_value kind.Value = true
follows_value kind.Bound = true
follows_value kind.Access = true
follows_value kind.Counts = true

abbrev pub follows_bound : Kind → Bool
follows_bound kind.Opening = false
follows_bound kind.Heading = true
follows_bound kind.NoRun = false
follows_bound kind.Value = false
follows_bound kind.Bound = true
follows_bound kind.Access = true
follows_bound kind.Counts = true

abbrev pub follows_access : Kind → Bool
follows_access kind.Opening = false
follows_access kind.Heading = false
follows_access kind.NoRun = false
follows_access kind.Value = false
follows_access kind.Bound = false
follows_access kind.Access = true
follows_access kind.Counts = true

-- whether a line of the second kind may stand right behind one of the first
abbrev pub may_follow : Kind → Kind → Bool
may_follow kind.Opening next = goes_on next
may_follow kind.Heading next = follows_heading next
may_follow kind.NoRun next = goes_on next
may_follow kind.Value next = follows_value next
may_follow kind.Bound next = follows_bound next
may_follow kind.Access next = follows_access next
may_follow kind.Counts next = false

abbrev pub is_opening : Kind → Bool
is_opening kind.Opening = true
is_opening kind.Heading = false
is_opening kind.NoRun = false
is_opening kind.Value = false
is_opening kind.Bound = false
is_opening kind.Access = false
is_opening kind.Counts = false

abbrev pub is_counts : Kind → Bool
is_counts kind.Opening = false
is_counts kind.Heading = false
is_counts kind.NoRun = false
is_counts kind.Value = false
is_counts kind.Bound = false
is_counts kind.Access = false
is_counts kind.Counts = true

-- the first line, or one that may follow the one before it
abbrev pub may_stand : (before : Option Kind) → Kind → Bool
may_stand None next = is_opening next
may_stand (Some before) next = may_follow before next

abbrev pub is_end : Option Kind → Bool
is_end None = false
is_end (Some before) = is_counts before

-- what tells a call path tells one
unfoldable pub has_path : Row → Bool
has_path (row.Opening o) = true
has_path (row.Heading h) = is_some (path_in h.path)
has_path row.NoRun = true
has_path (row.Value v) = true
has_path (row.Bound b) = true
has_path (row.Access a) = is_some (path_in a.path)
has_path (row.Counts c) = true

unfoldable pub fits : (before : Option Kind) → Row → Bool
fits before r = may_stand before (kind_of r) && has_path r

-- the row that a line is, where it may stand there
unfoldable pub next_in : (before : Option Kind) → List ℕ → Option Row
next_in before line = row_in line >>= (λ r. if_true (fits before r) r)

abbrev pub rows_in : List (List ℕ) → (before : Option Kind) → Option (List Row)
rows_in [] before = if_true (is_end before) []
rows_in (line ∷ lines) before =
    next_in before line >>= (λ r. option_map (λ rows. r ∷ rows) (rows_in lines (Some (kind_of r))))

-- ---- a text

-- the lines, each of which ends with a newline, and what stands behind the last newline
abbrev pub ended_lines : List ℕ → List (List ℕ)
ended_lines text = take (length (lines_of text) - 1) (lines_of text)

abbrev pub behind_lines : List ℕ → List ℕ
behind_lines text = slice_index_or (lines_of text) (length (lines_of text) - 1) []

-- the rows of a report
unfoldable pub report_in : List ℕ → Option (List Row)
report_in text = if same (behind_lines text) [] then rows_in (ended_lines text) None else None

-- ---- where a text is none

abbrev pub one_more : Option Row → (Row → ℕ) → ℕ
one_more None rest = 0
one_more (Some r) rest = suc (rest r)

-- how many lines, from the first on, may stand where they do
abbrev pub lines_read : List (List ℕ) → (before : Option Kind) → ℕ
lines_read [] before = 0
lines_read (line ∷ lines) before = one_more (next_in before line) (λ r. lines_read lines (Some (kind_of r)))

-- the first line, counted from 0, that may not stand where it does, or is missing
unfoldable pub first_wrong : List ℕ → ℕ
first_wrong text = lines_read (ended_lines text) None

abbrev pub AreNoRows : List (List ℕ) → ReadError → Type 0
AreNoRows lines (Refused line) = (rows_in lines None ≡ None) × (line ≡ lines_read lines None)
AreNoRows lines Memory = Unit {0}

-- bytes that aren't read are no report, unless there is no memory; and where the first wrong line is
abbrev pub IsRefusal : List ℕ → ReadError → Type 0
IsRefusal text (Refused line) = (report_in text ≡ None) × (line ≡ first_wrong text)
IsRefusal text Memory = Unit {0}
