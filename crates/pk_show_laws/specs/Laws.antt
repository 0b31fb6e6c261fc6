-- What holds of reports as they are written and read.
use Rattle.std.specs.Prelude.{◌≡◌, ℕ, ◌+◌, ◌<◌, Bool, List, ◌++◌, length, take, Option, Some, None}
use Rattle.pk_graph.specs.declared.verdicts.Verdict.{Verdict}
use Rattle.pk_graph.specs.Accesses.{AccessOf}
use Rattle.pk_graph.specs.Graphs.{GraphOf}
use Rattle.pk_graph.specs.WellMade.{IsGraph}
use Rattle.pk_state.specs.Facts.{Facts, Stated, AreFactsIf}
use Rattle.pk_state.specs.Layouts.{Layout}
use Rattle.pk_report.specs.Reports.{report_text}
use Rattle.pk_show.specs.declared.report.Row.{Row}
use Rattle.pk_show.specs.Reports.{rows_in, ended_lines, report_in, first_wrong}
use Rattle.pk_show_laws.specs.ReportRows.{report_rows}
use Rattle.pk_show_laws.specs.Tellable.{HasTellableNames, IsTellableGraph, AreTellable, IsTellable}

-- a report that is written of a graph is read, and gives its rows
abbrev pub ReportsGiveTheirRows : Type 0
ReportsGiveTheirRows =
    (all : Bool) (g : GraphOf) (heads : List ℕ) (elements : ℕ) (states : List Stated) (accesses : List AccessOf)
    (verdicts : List Verdict) → IsTellable g elements states accesses verdicts →
    report_in (report_text all g heads elements states accesses verdicts) ≡
    Some (report_rows all g heads elements states accesses verdicts)

-- a graph that is well made can be told, where its names and places can
abbrev pub GraphsAreTellable : Type 0
GraphsAreTellable = (g : GraphOf) → IsGraph g → HasTellableNames g → IsTellableGraph g

-- what is known of variables that have layout l can be told
abbrev pub FactsAreTellable : Type 0
FactsAreTellable = (l : Layout) (f : Option Facts) → AreFactsIf l f → AreTellable l f

-- the lines of some report begin with these
abbrev pub BeginReport : List (List ℕ) → Type 0
BeginReport lines = (more : List (List ℕ)) × (rows : List Row) × (rows_in (lines ++ more) None ≡ Some rows)

-- Some report begins with the lines before the first wrong one, and none with that line too.
pub record FirstWrongIsFirst : Type 0 where
  pub before : (text : List ℕ) → BeginReport (take (first_wrong text) (ended_lines text))
  pub there : (text : List ℕ) → first_wrong text < length (ended_lines text) →
      BeginReport (take (first_wrong text + 1) (ended_lines text)) → ⊥
