-- Lists of events that go through the items of an order one after another, and never keep more cells than the order's peak.
use Rattle.std.specs.Prelude.{ℕ, ◌≤◌, List}
use Rattle.pk_graph.specs.Graphs.{GraphOf}
use Rattle.pk_state.specs.Facts.{Stated}
use Rattle.pk_plan.specs.Order.{Level}
use Rattle.pk_plan.specs.Plans.{PlanView}
use Rattle.pk_order.specs.Ordered.{IsOrdered}
use Rattle.pk_peak.specs.Peak.{peak_of}
use Rattle.pk_iterate.specs.Behaviour.{Behaviour}
use Rattle.pk_iterate.specs.Outcome.{Outcome}
use Rattle.pk_iterate.specs.Ending.{Ends}
use Rattle.pk_iterate.specs.Fits.{FitsPlan}
use Rattle.pk_phases.specs.declared.equations.Cell.{Cell}
use Rattle.pk_analysis.specs.declared.analysis.Options.{Options}
use Rattle.pk_analysis.specs.Flows.{Flow}
use Rattle.pk_sound.specs.Results.{IsAnalysed}
use Rattle.pk_analysis_fits.specs.Analyses.{behaviour_in}
use Rattle.pk_release.specs.Kept.{cells_left}
use Rattle.pk_release.specs.In_order.{state_after, Line}

-- over the order of a digraph, for a system that fits its plan and whose recursion ends
abbrev pub EveryOrderHasALine : {C : Type 0} → Behaviour C → Type 0
EveryOrderHasALine b =
    (g : List (List ℕ)) (p : PlanView) (order : Level) → IsOrdered g p order → FitsPlan b p → Ends b order
    → Line b p order

-- such a list, and after each number of its events no more cells are left than the peak, where the slots of an item's elements are
-- emptied once it is over
pub record AnalysisLine (p : PlanView) (order : Level) (a : Flow) : Type 0 where
  pub line : Line (behaviour_in a) p order
  pub cells : (k : ℕ) → cells_left (behaviour_in a) p (state_after (behaviour_in a) p line.events k) ≤ peak_of p order

-- so it is of every analysis of a graph
abbrev pub AnalysesKeepWithinPeak : Type 0
AnalysesKeepWithinPeak =
    (g : GraphOf) (o : Options) (p : PlanView) (order : Level) (a : Flow) (most : ℕ) (it : Outcome (Cell Stated))
    → IsAnalysed g o p order a most it → AnalysisLine p order a
