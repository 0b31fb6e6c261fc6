-- The digraph of a graph: the points, and for each edge one from the point where it begins to that to which it leads.
use Rattle.std.specs.Prelude.{ℕ, List, map}
use Rattle.pk_graph.specs.Graphs.{EdgeOf, PointOf, GraphOf}

abbrev pub targets_of : List EdgeOf → List ℕ
targets_of = map (λ (e : EdgeOf). e.to)

abbrev pub digraph_of : GraphOf → List (List ℕ)
digraph_of g = map (λ (p : PointOf). targets_of p.edges) g.points
