-- What the steps of the numbering make.
use Rattle.std.specs.Prelude.{◌≡◌, ℕ, ◌<◌, nat_eq, true, false, if◌then◌else◌, List, [], ◌∷◌, ◌++◌, length, map, slice_index_or, slice_set}
use Rattle.std.specs.declared.vec.Vec.{Vec}
use Rattle.std.specs.declared.alloc.Global.{Global}
use Rattle.pk_graph.specs.declared.graphs.Edge.{Edge}
use Rattle.pk_graph.specs.declared.graphs.Point.{Point}
use Rattle.pk_graph.specs.Graphs.{EdgeOf, edge_view}
use Rattle.pk_draft.specs.declared.drafts.Label.{Label}
use Rattle.pk_draft.specs.Drafts.{EdgeFrom, nowhere, no_label}
use Rattle.pk_number.specs.Preorders.{is_among, place_among}
use Rattle.pk_number.specs.Numbering.{edges_from}

-- an edge without the point where it begins
abbrev pub bare : EdgeFrom ℕ → EdgeOf
bare e = record { instr = e.instr; to = e.to }

-- rows of edges, one for each point
abbrev pub rows_view : List (Vec Edge Global) → List (List EdgeOf)
rows_view = map (λ (row : Vec Edge Global). map edge_view row.items)

abbrev pub row_at : List (List EdgeOf) → ℕ → List EdgeOf
row_at rows p = slice_index_or rows p []

abbrev pub with_edge : EdgeFrom ℕ → List (List EdgeOf) → List (List EdgeOf)
with_edge e rows = if nat_eq e.to nowhere then rows else slice_set rows e.from (row_at rows e.from ++ bare e ∷ [])

-- the edges from each of n points
pub record AreRows (n : ℕ) (es : List (EdgeFrom ℕ)) (rows : List (List EdgeOf)) : Type 0 where
  pub size : length rows ≡ n
  pub each : (p : ℕ) → p < n → row_at rows p ≡ map bare (edges_from p es)

abbrev pub ends_in : List (List EdgeOf) → ℕ → List ℕ
ends_in rows p = map (λ (e : EdgeOf). e.to) (row_at rows p)

-- below m
abbrev pub AreBelow : ℕ → List ℕ → Type 0
AreBelow m xs = (x : ℕ) → is_among x xs ≡ true → x < m

-- no number twice
abbrev pub IsDistinct : List ℕ → Type 0
IsDistinct [] = Unit {0}
IsDistinct (x ∷ xs) = (is_among x xs ≡ false) × IsDistinct xs

-- of each of n points its place in the order, if it has one
pub record AreNumbers (n : ℕ) (order numbers : List ℕ) : Type 0 where
  pub size : length numbers ≡ n
  pub each : (p : ℕ) → is_among p order ≡ true → slice_index_or numbers p 0 ≡ place_among order p

-- an edge that leads to a point by its number
abbrev pub renumbered : List ℕ → EdgeOf → EdgeOf
renumbered numbers e = record { instr = e.instr; to = slice_index_or numbers e.to 0 }

-- a point whose scope is a place in the chain
pub record Placed : Type 0 where
  pub label : Label
  pub edges : List EdgeOf

unfoldable pub placed_view : Point → Placed
placed_view p =
    record { label = record { at = p.at; path = p.path; scope = p.scope }; edges = map edge_view p.edges.items }

abbrev pub placed : List Label → List (List EdgeOf) → List ℕ → ℕ → Placed
placed labels rows numbers p =
    record { label = slice_index_or labels p no_label; edges = map (renumbered numbers) (row_at rows p) }
