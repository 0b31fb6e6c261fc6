-- The pieces of points by their raw cells.
use Rattle.std.specs.Prelude.{ℕ, nat_lt, Bool, if◌then◌else◌, List, length, map}
use Rattle.std.specs.List.{zip}
use Rattle.pk_graph.specs.Graphs.{GraphOf}
use Rattle.pk_state.specs.Layouts.{Layout}
use Rattle.pk_state.specs.Facts.{Stated}
use Rattle.pk_phases.specs.declared.equations.Cell.{Cell}
use Rattle.pk_analysis.specs.Flows.{reduced_over}
use Rattle.pk_report.specs.Reports.{is_head}
use Rattle.pk_pieces.specs.Joined.{piece_by}
use Rattle.pk_pieces.specs.Pieces.{PieceOf, nothing_of}

-- of what is no point of the graph there is nothing to tell
abbrev pub piece_by_cell : (all : Bool) → GraphOf → Layout → (heads : List ℕ) → ℕ → Cell Stated → PieceOf
piece_by_cell all g l heads v c =
    if nat_lt v (length g.points) then piece_by all g (is_head heads v) (reduced_over l c) v else nothing_of v

-- those of points, with the cell of each
abbrev pub pieces_by_cells : (all : Bool) → GraphOf → Layout → (heads : List ℕ) → List ℕ → List (Cell Stated) →
    List PieceOf
pieces_by_cells all g l heads vs cells =
    map (λ (x : ℕ × Cell Stated). piece_by_cell all g l heads x.0 x.1) (zip vs cells)
