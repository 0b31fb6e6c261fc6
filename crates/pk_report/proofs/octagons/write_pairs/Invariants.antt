use Rattle.std.proofs.Common.{◌≡◌, ◌++◌, take}
use Rattle.std.specs.List.{flat_map}
use Rattle.pk_graph.specs.Shown.{graph_view}
use Rattle.pk_report.specs.Values.{pair_lines_if}
use Rattle.pk_report.proofs.octagons.write_pairs.Given as goal

abbrev pub invariant-loop-k : goal.invariant-loop-k
invariant-loop-k l = l.bytes.items ≡ l.initial.bytes.items ++ flat_map (pair_lines_if (graph_view l.graph) l.state.layout l.state.facts l.x) (take l.k l.others)
