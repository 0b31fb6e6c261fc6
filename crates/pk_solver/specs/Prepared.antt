-- What the iteration over a graph begins with.
use Rattle.std.specs.Prelude.{◌≡◌, ◌≤◌}
use Rattle.pk_graph.specs.Graphs.{GraphOf}
use Rattle.pk_state.specs.Layouts.{Layout}
use Rattle.pk_plan.specs.Order.{Level}
use Rattle.pk_plan.specs.Plans.{PlanView}
use Rattle.pk_order.specs.Ordered.{IsOrdered}
use Rattle.pk_analysis.specs.declared.analysis.Options.{Options}
use Rattle.pk_analysis.specs.Digraphs.{digraph_of}
use Rattle.pk_analysis.specs.Layouts.{layout_for, HasFewPacks}
use Rattle.pk_solver.specs.Bounds.{most_elements}

-- the plan of a graph, which has a linear order, and the layout of the states by it, without too many packs
pub record IsPrepared (g : GraphOf) (o : Options) (p : PlanView) (l : Layout) : Type 0 where
  pub order : Level
  pub ordered : IsOrdered (digraph_of g) p order
  pub elements : p.elements ≤ most_elements
  pub layout : l ≡ layout_for g p o
  pub few : HasFewPacks p o
