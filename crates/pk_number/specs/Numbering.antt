-- The graph of a draft: its points in depth-first preorder from the entry, without those that aren't reached.
use Rattle.std.specs.Prelude.{ℕ, ◌+◌, nat_eq, List, [], ◌∷◌, length, map, slice_index_or, Bool, not, ◌&&◌}
use Rattle.std.specs.List.{filter}
use Rattle.pk_graph.specs.Graphs.{PathOf, EdgeOf, PointOf, scope_at, GraphOf}
use Rattle.pk_draft.specs.Drafts.{EdgeFrom, DraftOf, nowhere, no_label, entry_point}
use Rattle.pk_number.specs.Preorders.{place_among, preorder}

-- an edge that is made from a point
abbrev pub is_from : {V : Type 0} → ℕ → EdgeFrom V → Bool
is_from p e = nat_eq e.from p && not (nat_eq e.to nowhere)

-- the edges from a point, in the order in which they were made
abbrev pub edges_from : {V : Type 0} → ℕ → List (EdgeFrom V) → List (EdgeFrom V)
edges_from p = filter (is_from p)

-- where they lead to
abbrev pub ends : {V : Type 0} → List (EdgeFrom V) → ℕ → List ℕ
ends es p = map (λ e. e.to) (edges_from p es)

-- each edge is waited for once
abbrev pub reached : {V : Type 0} → List (EdgeFrom V) → List ℕ
reached es = preorder (ends es) (2 + length es) (entry_point ∷ []) []

abbrev pub edge_of : List ℕ → EdgeFrom ℕ → EdgeOf
edge_of order e = record { instr = e.instr; to = place_among order e.to }

abbrev pub point_of : List ℕ → DraftOf ℕ → ℕ → PointOf
point_of order d p =
    let l = slice_index_or d.labels p no_label in
    record {
      at = l.at;
      path = l.path;
      scope = scope_at d.scopes l.scope;
      edges = map (edge_of order) (edges_from p d.edges);
    }

-- point k is the one that comes at place k of the order
abbrev pub numbered : List PathOf → DraftOf ℕ → GraphOf
numbered paths d =
    record { paths = paths; variables = d.made; points = map (point_of (reached d.edges) d) (reached d.edges) }
