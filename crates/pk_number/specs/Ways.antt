-- Ways along the edges of a draft and of a graph.
use Rattle.std.specs.Prelude.{◌≡◌, ℕ, ◌<◌, List, [], ◌∷◌, length, map, slice_get, Option, Some, option_map}
use Rattle.std.specs.Option.{option_and_then}
use Rattle.std.specs.List.{Contains}
use Rattle.pk_graph.specs.Graphs.{PathOf, EdgeOf, GraphOf, point_at}
use Rattle.pk_graph.specs.WellMade.{IsGraph}
use Rattle.pk_draft.specs.Drafts.{EdgeFrom, DraftOf, entry_point}
use Rattle.pk_number.specs.Numbering.{edges_from, reached, edge_of, numbered}

-- The edges of a way from point p that takes edge i of the point where it stands for each i of a list, if there are such edges.
abbrev pub draft_way : List (EdgeFrom ℕ) → ℕ → List ℕ → Option (List (EdgeFrom ℕ))
draft_way es p [] = Some []
draft_way es p (i ∷ is) =
    option_and_then (λ (e : EdgeFrom ℕ). option_map (λ way. e ∷ way) (draft_way es e.to is))
    (slice_get (edges_from p es) i)

abbrev pub graph_way : GraphOf → ℕ → List ℕ → Option (List EdgeOf)
graph_way g p [] = Some []
graph_way g p (i ∷ is) =
    option_and_then (λ (e : EdgeOf). option_map (λ way. e ∷ way) (graph_way g e.to is))
    (slice_get (point_at g p).edges i)

-- a way leads from point 0 to a point
pub data IsReached (g : GraphOf) : ℕ → Type 0 where
  at_entry : IsReached g 0
  along : {p : ℕ} → IsReached g p → (e : EdgeOf) → Contains (point_at g p).edges e → IsReached g e.to

-- The graph of a typed draft is a graph, each of its points is reached from point 0, and its ways from there are those of the draft from the entry, edge for edge.
pub record IsNumbered (paths : List PathOf) (d : DraftOf ℕ) : Type 0 where
  pub is_graph : IsGraph (numbered paths d)
  pub all_reached : (p : ℕ) → p < length (numbered paths d).points → IsReached (numbered paths d) p
  pub same_ways : (is : List ℕ) → graph_way (numbered paths d) 0 is
      ≡ option_map (map (edge_of (reached d.edges))) (draft_way d.edges entry_point is)
