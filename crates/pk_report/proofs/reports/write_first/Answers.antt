use Rattle.std.proofs.Common.{ap, ◌∙◌, ℕ, ◌++◌, length}
use Rattle.std.specs.Prelude.{codes}
use Rattle.pk_graph.specs.Shown.{graph_view}
use Rattle.pk_report.specs.Paths.{path_text}
use Rattle.pk_report.specs.Reports.{counted}
use Rattle.pk_report.proofs.WriteLemmas.{four}
use Rattle.pk_report.proofs.reports.write_first.Goals as goal

pub returns : goal.returns
returns c =
    let g = graph_view c.args.graph.now in
    four c.args.bytes.now.items (codes "pikos 1 entry " ++ path_text g.paths 0) (counted (codes " points ") (length g.points)) (counted (codes " elements ") c.args.elements) (codes "\n")
    c.write_entry.new.bytes.items c.write_counted.new.bytes.items c.write_counted-2.new.bytes.items c.write_text.new.bytes.items
    c.in_ok-write_entry.ensures (c.in_ok-write_counted.ensures ∙ ap (λ (n : ℕ). c.write_entry.new.bytes.items ++ counted (codes " points ") n) c.points.ensures) c.in_ok-write_counted-2.ensures c.in_ok-write_text.ensures
