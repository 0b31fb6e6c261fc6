use Rattle.std.proofs.Common.{◌≡◌, map, take}
use Rattle.pk_typed.specs.Views.{unit_tree}
use Rattle.pk_graph.specs.Graphs.{path_view}
use Rattle.pk_lower.specs.Paths.{path_of}
use Rattle.pk_lower.proofs.paths.graph_paths.Given as goal

abbrev pub invariant-loop-number : goal.invariant-loop-number
invariant-loop-number l = map path_view l.list.items ≡ map (path_of (unit_tree l.unit) l.paths) (take l.number l.paths)
