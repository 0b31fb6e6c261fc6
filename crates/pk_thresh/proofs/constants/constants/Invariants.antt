use Rattle.pk_graph.specs.Shown.{graph_view}
use Rattle.pk_thresh.proofs.PointLemmas.{AreUpTo}
use Rattle.pk_thresh.proofs.constants.constants.Given as goal

abbrev pub invariant-loop-point : goal.invariant-loop-point
invariant-loop-point l = AreUpTo (graph_view l.graph).points l.point l.all.items
