-- The accesses of a point.
use Rattle.std.specs.Prelude.{ℕ, List, length, take}
use Rattle.pk_graph.specs.Accesses.{AccessOf, of_edges, of_points}
use Rattle.pk_graph.specs.Graphs.{GraphOf, point_at}

-- those of a graph are these, point by point
abbrev pub accesses_at : GraphOf → ℕ → List AccessOf
accesses_at g v = of_edges v (point_at g v).edges

-- how many accesses come before those of a point
abbrev pub count_before : GraphOf → ℕ → ℕ
count_before g v = length (of_points 0 (take v g.points))
