-- The analysis, scheduled.
use Rattle.std.specs.Prelude.{◌≡◌, ℕ, List}
use Rattle.pk_graph.specs.Graphs.{GraphOf}
use Rattle.pk_state.specs.Facts.{Stated}
use Rattle.pk_plan.specs.Order.{Level}
use Rattle.pk_plan.specs.Plans.{PlanView, end_of}
use Rattle.pk_plan.specs.Shape.{shape_of}
use Rattle.pk_order.specs.Ordered.{IsOrdered}
use Rattle.pk_iterate.specs.Behaviour.{Behaviour}
use Rattle.pk_iterate.specs.Outcome.{Outcome}
use Rattle.pk_iterate.specs.Ending.{Ends}
use Rattle.pk_phases.specs.declared.equations.Cell.{Cell}
use Rattle.pk_phases.specs.Equations.{behaviour_of}
use Rattle.pk_analysis.specs.declared.analysis.Options.{Options}
use Rattle.pk_analysis.specs.Digraphs.{digraph_of}
use Rattle.pk_analysis.specs.Flows.{Flow, equations_of}
use Rattle.pk_analysis.specs.Made.{IsAnalysisOf}
use Rattle.pk_sound.specs.Results.{IsAnalysed}
use Rattle.pk_core.specs.declared.events.Event.{Event}
use Rattle.pk_core.specs.declared.events.Status.TheVariants.{Done}
use Rattle.pk_core.specs.States.{State}
use Rattle.pk_core.specs.Events.{start, AllEnabled, played}
use Rattle.pk_iterate.specs.Fits.{FitsPlan}
use Rattle.pk_core.specs.Promises.{KeepsTo}
use Rattle.pk_analysis_fits.specs.Systems.{IsAsIterated}

-- what an analysis computes
abbrev pub behaviour_in : Flow → Behaviour (Cell Stated)
behaviour_in a = behaviour_of (equations_of a)

abbrev pub AnalysesFit : Type 0
AnalysesFit =
    (g : GraphOf) (o : Options) (p : PlanView) (order : Level) (a : Flow) → IsAnalysisOf g p o a →
    IsOrdered (digraph_of g) p order → FitsPlan (behaviour_in a) p

-- the state keeps to a recursion that ends, and once END is done it has the analysis's result
pub record KeepsToAnalysis (p : PlanView) (order : Level) (a : Flow) (it : Outcome (Cell Stated))
    (s : State (Cell Stated)) : Type 0 where
  pub ends : Ends (behaviour_in a) order
  pub keeps : KeepsTo (behaviour_in a) p ends s
  pub result : (s (end_of p)).status ≡ Done → IsAsIterated (behaviour_in a) p s it

abbrev pub AnalysesKeep : Type 0
AnalysesKeep =
    (g : GraphOf) (o : Options) (p : PlanView) (order : Level) (a : Flow) (most : ℕ) (it : Outcome (Cell Stated))
    (events : List Event) → IsAnalysed g o p order a most it
    → AllEnabled (behaviour_in a) (shape_of p) (start (shape_of p)) events →
    KeepsToAnalysis p order a it (played (behaviour_in a) (shape_of p) (start (shape_of p)) events)
