-- The report of a unit's graph is read back whole.
use Rattle.std.specs.Prelude.{◌≡◌, ℕ, ◌<◌, ◌≤◌, ◌^◌, Bool, true, List, length, Option, Some, All}
use Rattle.pk_typed.specs.Trees.{UnitTree}
use Rattle.pk_calls.specs.declared.listings.CallPath.{CallPath}
use Rattle.pk_calls.specs.Calls.{HasBody}
use Rattle.pk_calls.specs.Paths.{IsListing}
use Rattle.pk_calls.specs.Laws.{AreCallPaths}
use Rattle.pk_graph.specs.Accesses.{OperationOf, AccessOf, accesses_of}
use Rattle.pk_graph.specs.Graphs.{GraphOf}
use Rattle.pk_graph.specs.WellMade.{IsGraph}
use Rattle.pk_lower.specs.Answers.{point_limit}
use Rattle.pk_lower.specs.Graphs.{graph_of}
use Rattle.pk_lower.specs.Parts.{point_count}
use Rattle.pk_welltyped.specs.WellTyped.{IsUnit}
use Rattle.pk_places_laws.specs.Places as places
use Rattle.pk_places_laws.specs.Names as names
use Rattle.pk_state.specs.Facts.{Facts, Stated, AreFactsIf}
use Rattle.pk_state.specs.Layouts.{Layout}
use Rattle.pk_transfer.specs.Trees.{kinds_of}
use Rattle.pk_verdict.specs.Verdicts.{IsTypedOperation, verdict_of}
use Rattle.pk_plan.specs.Plans.{PlanView}
use Rattle.pk_order.specs.Ordered.{heads_of}
use Rattle.pk_analysis.specs.declared.analysis.Options.{Options}
use Rattle.pk_solver.specs.Solved.{AreStates}
use Rattle.pk_graph_report.specs.Reported.{IsReport, verdicts_of}
use Rattle.pk_show.specs.Laws.{IsPlace, IsVerdict}
use Rattle.pk_show.specs.Pieces.{is_identifier}
use Rattle.pk_show.specs.Reports.{report_in}
use Rattle.pk_show_laws.specs.ReportRows as rows
use Rattle.pk_show_laws.specs.ReportRows.{report_rows}
use Rattle.pk_show_laws.specs.Tellable.{HasTellableNames}

-- The bounds of an unknown verdict are less than 2^127 from 0, for each operation whose operands agree with a layout.
abbrev pub VerdictsAreTellable : Type 0
VerdictsAreTellable =
    (l : Layout) (f : Option Facts) (o : OperationOf) → AreFactsIf l f → IsTypedOperation (kinds_of l) o →
    IsVerdict (rows.verdict_of (verdict_of l f o))

-- These bytes are read as a report: it gives the rows of the states of the graph's points, each head, point, variable, relation and access, and the counts.
pub record IsReadBack (g : GraphOf) (o : Options) (most : ℕ) (all : Bool) (bytes : List ℕ) : Type 0 where
  pub plan : PlanView
  pub states : List Stated
  pub are_states : AreStates g o most plan states
  pub read : report_in bytes ≡
      Some (report_rows all g (heads_of plan) plan.elements states (accesses_of g) (verdicts_of g states))

-- made on a path that is there, at a place in range
pub record IsTellableAt (g : GraphOf) (a : AccessOf) : Type 0 where
  pub path : a.site.path < length g.paths
  pub at : IsPlace a.site.at

-- a well-made graph, whose names are identifiers, whose callers come first and whose places are in range
pub record CanBeReported (g : GraphOf) : Type 0 where
  pub graph : IsGraph g
  pub names : HasTellableNames g
  pub accesses : All (IsTellableAt g) (accesses_of g)

-- Every report on such a graph is read back, where it is shorter than 2^64 bytes.
abbrev pub GraphReportsAreReadBack : Type 0
GraphReportsAreReadBack =
    (g : GraphOf) (o : Options) (most : ℕ) (all : Bool) (unknown : ℕ) (bytes : List ℕ) → CanBeReported g →
    o.oct < 2 ^ 31 → length bytes < 2 ^ 64 → IsReport g o most all unknown bytes → IsReadBack g o most all bytes

-- a well-typed unit with its call paths from an entry, whose graph has no more points than the limit, whose names are identifiers and whose places are in range
pub record IsTellableUnit (u : UnitTree) (entry : ℕ) (paths : List CallPath) : Type 0 where
  pub typed : IsUnit u
  pub entry_has_body : HasBody u entry
  pub listing : IsListing u entry paths
  pub call_paths : AreCallPaths u entry paths
  pub points : point_count u paths ≤ point_limit
  pub names : names.InUnit (λ name. is_identifier name ≡ true) u
  pub places : places.InUnit IsPlace u

-- Every report on the graph of such a unit is read back, where it is shorter than 2^64 bytes.
abbrev pub ReportsAreReadBack : Type 0
ReportsAreReadBack =
    (u : UnitTree) (entry : ℕ) (paths : List CallPath) (o : Options) (most : ℕ) (all : Bool) (unknown : ℕ)
    (bytes : List ℕ) → IsTellableUnit u entry paths → o.oct < 2 ^ 31 → length bytes < 2 ^ 64 →
    IsReport (graph_of u paths) o most all unknown bytes → IsReadBack (graph_of u paths) o most all bytes
