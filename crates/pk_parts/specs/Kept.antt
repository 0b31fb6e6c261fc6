-- What is kept of items for a report.
use Rattle.std.specs.Prelude.{◌≡◌, ℕ, ◌<◌, Bool, List, length, map, slice_index_or, All}
use Rattle.std.specs.List.{flat_map, range_with_len}
use Rattle.pk_graph.specs.declared.graphs.Graph.{Graph}
use Rattle.pk_graph.specs.declared.operations.Access.{Access}
use Rattle.pk_graph.specs.Accesses.{accesses_of}
use Rattle.pk_graph.specs.AccessViews.{access_views}
use Rattle.pk_graph.specs.Graphs.{GraphOf, kinds_of}
use Rattle.pk_graph.specs.Shown.{graph_view}
use Rattle.pk_state.specs.Layouts.{Layout}
use Rattle.pk_state.specs.Facts.{Stated}
use Rattle.pk_transfer.specs.Trees.{IsOver}
use Rattle.pk_phases.specs.declared.equations.Cell.{Cell}
use Rattle.pk_analysis.specs.Flows.{Flow, reduced_cell}
use Rattle.pk_report.specs.Reports.{AreHeads}
use Rattle.pk_pieces.specs.Pieces.{PieceOf}
use Rattle.pk_parts.specs.Cells.{pieces_by_cells}

-- what is told: by which equations, whether of all points, and which points are heads
pub record ReportingOf : Type 0 where
  pub flow : Flow
  pub all : Bool
  pub heads : List ℕ

abbrev pub graph_in : ReportingOf → GraphOf
graph_in r = graph_view r.flow.graph

-- what is kept of an item: the pieces of its points, by their cells
abbrev pub part_of : ReportingOf → List ℕ → List (Cell Stated) → List PieceOf
part_of r = pieces_by_cells r.all (graph_in r) r.flow.layout r.heads

-- the graph, its layout, its accesses and the marks of its heads are at hand
pub record IsReady (r : ReportingOf) (g : Graph) (l : Layout) (listed : List Access) (marked : List Bool) : Type 0 where
  pub graph : graph_view g ≡ graph_in r
  pub layout : l ≡ r.flow.layout
  pub over : IsOver (kinds_of (graph_view g)) l
  pub accesses : access_views listed ≡ accesses_of (graph_view g)
  pub marks : AreHeads (length (graph_view g).points) r.heads marked

-- ---- all items

-- the reduced states of the points, of each of which this is the cell
abbrev pub states_by : ReportingOf → (cell : ℕ → Cell Stated) → List Stated
states_by r cell = map (λ v. reduced_cell r.flow (cell v)) (range_with_len 0 (length (graph_in r).points))

abbrev pub points_in : List (List ℕ) → List ℕ
points_in = flat_map (λ (vs : List ℕ). vs)

abbrev pub pieces_in : List (List PieceOf) → List PieceOf
pieces_in = flat_map (λ (ps : List PieceOf). ps)

-- of items that have these points, each what is kept of it; they have points of the graph, and each one
pub record AreKept (r : ReportingOf) (cell : ℕ → Cell Stated) (items : List (List ℕ))
    (kept : List (List PieceOf)) : Type 0 where
  pub each : kept ≡ map (λ (vs : List ℕ). part_of r vs (map cell vs)) items
  pub within : All (λ v. v < length (graph_in r).points) (points_in items)
  pub all : (v : ℕ) → v < length (graph_in r).points →
      (k : ℕ) × (k < length (points_in items)) × (slice_index_or (points_in items) k v ≡ v)
