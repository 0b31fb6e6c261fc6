use Rattle.pk_graph.specs.Shown.{graph_view}
use Rattle.pk_graph_report.proofs.PointByPoint.{AreTold}
use Rattle.pk_graph_report.proofs.pieces.with_pieces.Given as goal

abbrev pub invariant-loop-point : goal.invariant-loop-point
invariant-loop-point l = AreTold l.all (graph_view l.graph) l.heads l.states l.fn.first.items l.point l.report
