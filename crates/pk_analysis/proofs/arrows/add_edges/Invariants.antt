use Rattle.std.proofs.Common.{map}
use Rattle.pk_graph.specs.Graphs.{edge_view}
use Rattle.pk_analysis.specs.Arrows.{rows_of}
use Rattle.pk_analysis.proofs.ArrowLemmas.{SoFar}
use Rattle.pk_analysis.proofs.arrows.add_edges.Given as goal

abbrev pub invariant-loop-edge : goal.invariant-loop-edge
invariant-loop-edge l = SoFar l.from l.edge (map edge_view l.edges) (rows_of l.fn.rows.items) (rows_of l.rows.items)
