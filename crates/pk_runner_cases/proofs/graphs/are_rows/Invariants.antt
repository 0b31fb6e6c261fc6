use Rattle.std.proofs.Common.{ℕ, ◌<◌, map}
use Rattle.pk_graph.specs.Graphs.{kinds_of}
use Rattle.pk_graph.specs.Kinds.{type_at, count_at}
use Rattle.pk_graph.specs.Shown.{graph_view}
use Rattle.pk_graph.specs.Stores.{numbers_of}
use Rattle.pk_runner_cases.specs.Places.{AreNumbers}
use Rattle.pk_runner_cases.proofs.graphs.are_rows.Given as goal

abbrev pub invariant-loop-number : goal.invariant-loop-number
invariant-loop-number l =
    (x : ℕ) → x < l.number → AreNumbers (type_at (kinds_of (graph_view l.graph)) x) (count_at (kinds_of (graph_view l.graph)) x) (numbers_of (map (λ row. row.items) l.rows) x)
