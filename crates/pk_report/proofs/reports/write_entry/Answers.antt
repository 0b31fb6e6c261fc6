use Rattle.std.proofs.Common.{ap, ◌∙◌, List, ◌++◌}
use Rattle.std.specs.Prelude.{codes}
use Rattle.pk_graph.specs.Graphs.{PathOf}
use Rattle.pk_graph.specs.Shown.{graph_view}
use Rattle.pk_report.specs.Paths.{path_text}
use Rattle.pk_report.proofs.WriteLemmas.{two}
use Rattle.pk_report.proofs.reports.write_entry.Goals as goal

pub returns : goal.returns
returns c =
    two c.args.bytes.now.items (codes "pikos 1 entry ") (path_text (graph_view c.args.graph.now).paths 0) c.write_text.new.bytes.items c.write_path.new.bytes.items
    c.in_ok-write_text.ensures (c.in_ok-write_path.ensures ∙ ap (λ (ps : List PathOf). c.write_text.new.bytes.items ++ path_text ps 0) c.paths.ensures)
