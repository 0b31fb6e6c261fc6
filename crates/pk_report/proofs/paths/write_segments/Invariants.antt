use Rattle.std.proofs.Common.{◌≡◌, ◌++◌, map, take}
use Rattle.pk_graph.specs.Graphs.{path_view}
use Rattle.pk_report.specs.Paths.{segments}
use Rattle.pk_report.proofs.paths.write_segments.Given as goal

abbrev pub invariant-loop-k : goal.invariant-loop-k
invariant-loop-k l = l.bytes.items ≡ l.initial.bytes.items ++ segments (map path_view l.paths) (take l.k l.line)
