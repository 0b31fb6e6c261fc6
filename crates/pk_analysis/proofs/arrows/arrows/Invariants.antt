use Rattle.pk_graph.specs.Shown.{graph_view}
use Rattle.pk_analysis.specs.Arrows.{rows_of}
use Rattle.pk_analysis.proofs.ArrowLemmas.{UpTo}
use Rattle.pk_analysis.proofs.arrows.arrows.Given as goal

abbrev pub invariant-loop-point : goal.invariant-loop-point
invariant-loop-point l = UpTo (graph_view l.graph).points l.point (rows_of l.rows.items)
