-- A report and the text that it is on.
use Rattle.std.specs.Prelude.{◌≡◌, ℕ, ◌&&◌, Bool, true, false, List, Option, Some, None}
use Rattle.std.specs.List.{list_all}
use Rattle.pk_ctypes.specs.declared.places.Pos.{Pos}
use Rattle.pk_show.specs.declared.report.Row.{Row}
use Rattle.pk_show.specs.declared.report.Row.TheVariants as row
use Rattle.pk_show.specs.Paths.{CallOf, PathOf, path_in}
use Rattle.pk_show.specs.Reports.{report_in, first_wrong}
use Rattle.pk_findings.specs.declared.shown.ShowError.{ShowError}
use Rattle.pk_findings.specs.declared.shown.ShowError.TheVariants.{NoReport, OtherText, Memory}
use Rattle.pk_findings.specs.Texts.{TextOf, IsText, is_within}
use Rattle.pk_findings.specs.Operations.{OperationOf, cases_in, AreOperations}

pub record ShownOf : Type 0 where
  pub text : TextOf
  pub rows : List Row
  pub operations : List OperationOf

abbrev pub are_calls_within : TextOf → List CallOf → Bool
are_calls_within t = list_all (λ c. is_within t c.at)

abbrev pub is_path_within : TextOf → Option PathOf → Bool
is_path_within t None = false
is_path_within t (Some p) = are_calls_within t p.calls

-- a place and each call of a path stand in the text
abbrev pub is_place_within : TextOf → Pos → Option PathOf → Bool
is_place_within t at path = is_within t at && is_path_within t path

-- each place that a row tells
unfoldable pub is_row_within : TextOf → Row → Bool
is_row_within t (row.Opening o) = true
is_row_within t (row.Heading h) = is_place_within t h.at (path_in h.path)
is_row_within t row.NoRun = true
is_row_within t (row.Value v) = true
is_row_within t (row.Bound b) = true
is_row_within t (row.Access a) = is_place_within t a.at (path_in a.path)
is_row_within t (row.Counts c) = true

-- rows whose places all stand in the text, and their operations
pub record ArePlaced (t : TextOf) (rows : List Row) (operations : List OperationOf) : Type 0 where
  pub within : list_all (is_row_within t) rows ≡ true
  pub are : AreOperations (cases_in rows) operations

-- a report on a text of this name: every place that it tells stands in the text
pub record IsShown (name bytes report : List ℕ) (s : ShownOf) : Type 0 where
  pub text : IsText name bytes s.text
  pub rows : report_in report ≡ Some s.rows
  pub placed : ArePlaced s.text s.rows s.operations

-- the rows that tell a place that isn't in the text of these bytes
abbrev pub IsOfOther : (bytes : List ℕ) → Option (List Row) → Type 0
IsOfOther bytes None = ⊥
IsOfOther bytes (Some rows) = (t : TextOf) × IsText t.name bytes t × (list_all (is_row_within t) rows ≡ false)

-- why nothing is shown
abbrev pub IsNone : (bytes report : List ℕ) → ShowError → Type 0
IsNone bytes report (NoReport line) = (report_in report ≡ None) × (line ≡ first_wrong report)
IsNone bytes report OtherText = IsOfOther bytes (report_in report)
IsNone bytes report Memory = Unit {0}
