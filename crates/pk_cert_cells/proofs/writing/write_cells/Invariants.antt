use Rattle.std.proofs.Common.{◌≡◌, ◌++◌, map}
use Rattle.pk_graph.specs.Graphs.{kinds_of}
use Rattle.pk_graph.specs.Shown.{graph_view}
use Rattle.pk_cert.specs.Rows.{lines_text}
use Rattle.pk_cert_states.specs.Lines.{line_of}
use Rattle.pk_cert_lines.specs.Told.{IsTold}
use Rattle.pk_cert_cells.specs.Cells.{facts_in}
use Rattle.pk_cert_cells.proofs.writing.write_cells.Given as goal

abbrev pub invariant-loop-v : goal.invariant-loop-v
invariant-loop-v l =
    (l.bytes.items ≡ l.fn.bytes.items ++ lines_text (map (line_of (kinds_of (graph_view l.graph))) (facts_in l.frame l.v l.cells.cells)))
    × IsTold (kinds_of (graph_view l.graph)) l.frame l.told
