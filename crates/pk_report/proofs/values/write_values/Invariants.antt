use Rattle.std.proofs.Common.{◌≡◌, ◌++◌, take}
use Rattle.std.specs.List.{flat_map}
use Rattle.pk_graph.specs.Shown.{graph_view}
use Rattle.pk_report.specs.Values.{value_lines_if}
use Rattle.pk_report.proofs.values.write_values.Given as goal

abbrev pub invariant-loop-k : goal.invariant-loop-k
invariant-loop-k l = l.bytes.items ≡ l.initial.bytes.items ++ flat_map (value_lines_if (graph_view l.graph) l.state.layout l.state.facts) (take l.k l.visible)
