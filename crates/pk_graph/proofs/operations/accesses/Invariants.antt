use Rattle.pk_graph.specs.AccessViews.{access_views}
use Rattle.pk_graph.specs.Shown.{graph_view}
use Rattle.pk_graph.proofs.AccessLemmas.{AreUpTo}
use Rattle.pk_graph.proofs.operations.accesses.Given as goal

abbrev pub invariant-loop-point : goal.invariant-loop-point
invariant-loop-point l = AreUpTo (graph_view l.graph).points l.point (access_views l.all.items)
