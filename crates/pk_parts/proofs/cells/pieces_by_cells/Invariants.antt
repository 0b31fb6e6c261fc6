use Rattle.std.proofs.Common.{◌≡◌, ℕ, map, take}
use Rattle.std.specs.Arc.{arc_value}
use Rattle.std.specs.List.{zip}
use Rattle.pk_graph.specs.Shown.{graph_view}
use Rattle.pk_state.specs.Facts.{Stated}
use Rattle.pk_phases.specs.declared.equations.Cell.{Cell}
use Rattle.pk_parts.specs.Cells.{piece_by_cell}
use Rattle.pk_parts.proofs.cells.pieces_by_cells.Given as goal

abbrev pub invariant-loop-k : goal.invariant-loop-k
invariant-loop-k l =
    l.pieces.items ≡ map (λ (x : ℕ × Cell Stated). piece_by_cell l.all (graph_view l.graph) l.frame l.heads x.0 x.1) (take l.k (zip l.points (map arc_value l.cells)))
