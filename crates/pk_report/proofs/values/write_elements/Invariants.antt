use Rattle.std.proofs.Common.{◌≡◌, ◌++◌, take}
use Rattle.std.specs.List.{flat_map, range_with_len}
use Rattle.pk_graph.specs.Shown.{graph_view}
use Rattle.pk_report.specs.Values.{numbers_of, element_line_if}
use Rattle.pk_report.proofs.values.write_elements.Given as goal

abbrev pub invariant-loop-i : goal.invariant-loop-i
invariant-loop-i l =
    l.bytes.items ≡ l.initial.bytes.items ++ flat_map (element_line_if (graph_view l.graph) l.state.layout l.state.facts l.x) (take l.i (range_with_len 0 (numbers_of (graph_view l.graph) l.x)))
