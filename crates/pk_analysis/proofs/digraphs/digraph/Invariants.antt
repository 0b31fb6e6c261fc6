use Rattle.std.proofs.Common.{◌≡◌, map, take}
use Rattle.pk_graph.specs.Shown.{graph_view}
use Rattle.pk_analysis.specs.Arrows.{rows_of}
use Rattle.pk_analysis.proofs.DigraphLemmas.{row_of}
use Rattle.pk_analysis.proofs.digraphs.digraph.Given as goal

abbrev pub invariant-loop-point : goal.invariant-loop-point
invariant-loop-point l = rows_of l.successors.items ≡ map row_of (take l.point (graph_view l.graph).points)
