-- The equations of a graph over the order in which they are iterated.
use Rattle.std.specs.Prelude.{◌≡◌, ℕ, ◌<◌, true}
use Rattle.pk_graph.specs.Graphs.{GraphOf}
use Rattle.pk_plan.specs.Order.{Level}
use Rattle.pk_plan.specs.Plans.{PlanView}
use Rattle.pk_order.specs.Ordered.{IsOrdered}
use Rattle.pk_packs.specs.Packs.{pack_count, pack_limit}
use Rattle.pk_iterate.specs.Answer.{Over}
use Rattle.pk_phases.specs.Equations.{behaviour_of}
use Rattle.pk_analysis.specs.declared.analysis.Options.{Options}
use Rattle.pk_analysis.specs.Digraphs.{digraph_of}
use Rattle.pk_analysis.specs.Flows.{Flow, equations_of}
use Rattle.pk_analysis.specs.Made.{IsAnalysisOf}

-- the order of a graph, and the equations of its points with the heads and exits of that order
pub record IsSystem (g : GraphOf) (o : Options) (p : PlanView) (order : Level) (a : Flow) : Type 0 where
  pub ordered : IsOrdered (digraph_of g) p order
  pub analysis : IsAnalysisOf g p o a

-- some element is run more often than the limit
pub record IsOver (g : GraphOf) (o : Options) (most : ℕ) : Type 0 where
  pub plan : PlanView
  pub order : Level
  pub flow : Flow
  pub system : IsSystem g o plan order flow
  pub over : Over (behaviour_of (equations_of flow)) order plan.elements most

-- packs are asked for, and there would be more than there may be
pub record HasManyPacks (g : GraphOf) (o : Options) : Type 0 where
  pub plan : PlanView
  pub order : Level
  pub ordered : IsOrdered (digraph_of g) plan order
  pub asked : o.packs ≡ true
  pub many : pack_limit < pack_count plan
