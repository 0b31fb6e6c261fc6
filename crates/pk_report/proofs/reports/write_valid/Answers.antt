use Rattle.std.proofs.Common.{ap, ◌∙◌, ℕ, ◌++◌, length}
use Rattle.std.specs.Prelude.{codes}
use Rattle.pk_graph.specs.Shown.{graph_view}
use Rattle.pk_report.specs.Reports.{counted}
use Rattle.pk_report.proofs.WriteLemmas.{two}
use Rattle.pk_report.proofs.reports.write_valid.Goals as goal

pub returns : goal.returns
returns c =
    let g = graph_view c.args.graph.now in
    two c.args.bytes.now.items (counted (codes "valid points ") (length g.points)) (codes "\n") c.write_counted.new.bytes.items c.write_text.new.bytes.items
    (c.in_ok-write_counted.ensures ∙ ap (λ (n : ℕ). c.args.bytes.now.items ++ counted (codes "valid points ") n) c.points.ensures) c.in_ok-write_text.ensures
