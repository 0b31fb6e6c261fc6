-- The edges that lead to a point, in edge order: by number of the points where they begin, and at a point in the order in which they were made.
use Rattle.std.specs.Prelude.{◌≡◌, ℕ, ◌+◌, ◌<◌, ◌==◌, if◌then◌else◌, List, [], ◌∷◌, ◌++◌, map, length, slice_index_or}
use Rattle.std.specs.Global.{Vec}
use Rattle.pk_graph.specs.Trees.{InstrOf, Skip}
use Rattle.pk_graph.specs.Graphs.{EdgeOf, PointOf, GraphOf, point_at}
use Rattle.pk_analysis.specs.declared.arrows.Arrow.{Arrow}

-- those to v of a list of edges that begin at u, the first of which is number j there
abbrev pub arrows_along : (v u j : ℕ) → List EdgeOf → List Arrow
arrows_along v u j [] = []
arrows_along v u j (e ∷ es) =
    if e.to == v then record { from = u; edge = j } ∷ arrows_along v u (j + 1) es else arrows_along v u (j + 1) es

-- those of the points from u on
abbrev pub arrows_from : (v u : ℕ) → List PointOf → List Arrow
arrows_from v u [] = []
arrows_from v u (p ∷ ps) = arrows_along v u 0 p.edges ++ arrows_from v (u + 1) ps

abbrev pub arrows_at : GraphOf → ℕ → List Arrow
arrows_at g v = arrows_from v 0 g.points

-- the points where these begin
abbrev pub origins : List Arrow → List ℕ
origins = map (λ (a : Arrow). a.from)

abbrev pub no_edge : EdgeOf
no_edge = record { instr = Skip; to = 0 }

abbrev pub instr_of : GraphOf → Arrow → InstrOf ℕ
instr_of g a = (slice_index_or (point_at g a.from).edges a.edge no_edge).instr

-- ---- kept point by point

abbrev pub rows_of : {A : Type 0} → List (Vec A) → List (List A)
rows_of {A} vs = map (λ (v : Vec A). v.items) vs

abbrev pub row_at : {A : Type 0} → List (List A) → ℕ → List A
row_at rows v = slice_index_or rows v []

-- for each point the edges that lead to it
pub record AreArrows (g : GraphOf) (rows : List (List Arrow)) : Type 0 where
  pub size : length rows ≡ length g.points
  pub each : (v : ℕ) → v < length g.points → row_at rows v ≡ arrows_at g v

-- each row with what f adds to it
pub record AreMore {A : Type 0} (f : ℕ → List A) (old new : List (List A)) : Type 0 where
  pub size : length new ≡ length old
  pub each : (v : ℕ) → v < length old → row_at new v ≡ row_at old v ++ f v

-- an edge of the graph
pub record IsArrow (g : GraphOf) (a : Arrow) : Type 0 where
  pub point : a.from < length g.points
  pub edge : a.edge < length (point_at g a.from).edges
