-- What is told of the states that the iteration leaves is the report and the summary.
use Rattle.std.specs.Prelude.{◌≡◌, ℕ, Bool, List}
use Rattle.pk_graph.specs.Accesses.{accesses_of}
use Rattle.pk_graph.specs.Graphs.{GraphOf}
use Rattle.pk_state.specs.Facts.{Stated}
use Rattle.pk_plan.specs.Plans.{PlanView}
use Rattle.pk_order.specs.Ordered.{heads_of}
use Rattle.pk_analysis.specs.declared.analysis.Options.{Options}
use Rattle.pk_report.specs.Reports.{report_text, summary_text, unknown_in}
use Rattle.pk_solver.specs.Solved.{AreStates}
use Rattle.pk_graph_report.specs.Reported.{IsReport, IsSummary, verdicts_of}

pub report_so : (g : GraphOf) (o : Options) (most : ℕ) (all : Bool) (p : PlanView) (states : List Stated) (unknown : ℕ) (bytes : List ℕ) → AreStates g o most p states
    → bytes ≡ report_text all g (heads_of p) p.elements states (accesses_of g) (verdicts_of g states) → unknown ≡ unknown_in (verdicts_of g states) → IsReport g o most all unknown bytes
report_so g o most all p states unknown bytes are told count = record { plan = p; states = states; are_states = are; counted = count; told = told }

pub summary_so : (g : GraphOf) (o : Options) (most seed size text_length : ℕ) (p : PlanView) (states : List Stated) (unknown : ℕ) (bytes : List ℕ) → AreStates g o most p states
    → bytes ≡ summary_text seed size text_length g p.elements (verdicts_of g states) → unknown ≡ unknown_in (verdicts_of g states) → IsSummary g o most seed size text_length unknown bytes
summary_so g o most seed size text_length p states unknown bytes are told count = record { plan = p; states = states; are_states = are; counted = count; told = told }
