use Rattle.std.proofs.Common.{map, length}
use Rattle.std.specs.Arc.{arc_value}
use Rattle.pk_graph.specs.Graphs.{kinds_of}
use Rattle.pk_graph.specs.Shown.{graph_view}
use Rattle.pk_cert_lines.specs.Told.{IsTold}
use Rattle.pk_cert_cells.proofs.Celling.{CellsSo}
use Rattle.pk_cert_cells.proofs.reading.cells_of.Given as goal

-- the cells of the lines so far
abbrev pub invariant-loop-k : goal.invariant-loop-k
invariant-loop-k l =
    CellsSo (kinds_of (graph_view l.graph)) l.frame l.shape (length (graph_view l.graph).points) l.bytes (map arc_value l.cells.items) l.k l.at
    × IsTold (kinds_of (graph_view l.graph)) l.frame l.told
