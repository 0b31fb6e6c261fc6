-- An analysis goes by its plan.
use Rattle.pk_graph.specs.Graphs.{GraphOf}
use Rattle.pk_graph.specs.WellMade.{IsGraph}
use Rattle.pk_plan.specs.Order.{Level}
use Rattle.pk_plan.specs.Plans.{PlanView}
use Rattle.pk_order.specs.Ordered.{IsOrdered}
use Rattle.pk_phases.specs.Equations.{ReadsPoints, PartsAreOf}
use Rattle.pk_phases.specs.Planned.{PartsAreOfPlan}
use Rattle.pk_phases.specs.Solved.{SourcesAhead}
use Rattle.pk_analysis.specs.declared.analysis.Options.{Options}
use Rattle.pk_analysis.specs.Digraphs.{digraph_of}
use Rattle.pk_analysis.specs.Flows.{Flow, equations_of}
use Rattle.pk_analysis.specs.Made.{IsAnalysisOf}

-- Its heads and exits are those of the plan and of the order, points read points, and what they read stands to the left in the order.
pub record GoesByPlan (p : PlanView) (order : Level) (a : Flow) : Type 0 where
  pub components : PartsAreOfPlan (equations_of a) p
  pub parts : PartsAreOf (equations_of a) order
  pub points : ReadsPoints (equations_of a)
  pub ahead : SourcesAhead (equations_of a) order

abbrev pub AnalysesGoByPlan : Type 0
AnalysesGoByPlan =
    (g : GraphOf) (o : Options) (p : PlanView) (order : Level) (a : Flow) → IsGraph g → IsAnalysisOf g p o a →
    IsOrdered (digraph_of g) p order → GoesByPlan p order a
