use Rattle.pk_graph.specs.Shown.{graph_view}
use Rattle.pk_analysis.specs.Digraphs.{digraph_of}
use Rattle.pk_solver.proofs.Solved.{few_so, order_of}
use Rattle.pk_solver.specs.Bounds.{most_points}
use Rattle.pk_solver.proofs.preparing.plan_of.Goals as goal

pub returns-clause-ordered : goal.returns-clause-ordered
returns-clause-ordered c =
    order_of c.every_plan_has_a_linear_order.ensures (digraph_of (graph_view c.args.graph.now)) c.in_ok-points.points c.in_ok-plan.plan c.in_ok-points.ensures c.in_ok-plan.ensures.planned

pub returns-clause-few : goal.returns-clause-few
returns-clause-few c =
    few_so (graph_view c.args.graph.now) c.in_ok-points.points c.in_ok-plan.plan.elements most_points c.in_ok-points.ensures c.in_ok-plan.ensures.few c.requires.few
