use Rattle.std.proofs.Common.{ap, ◌∙◌, List, ℕ, [], ◌++◌}
use Rattle.std.specs.Prelude.{codes}
use Rattle.pk_graph.specs.Shown.{graph_view}
use Rattle.pk_report.specs.Reports.{counted, first_line, last_line}
use Rattle.pk_report.proofs.WriteLemmas.{three}
use Rattle.pk_report.proofs.reports.summary.Goals as goal

pub returns : goal.returns
returns c =
    let g = graph_view c.args.graph.now in
    let made = counted (codes "gen seed ") c.args.seed ++ counted (codes " size ") c.args.size ++ counted (codes " bytes ") c.args.text_length ++ codes "\n" in
    three [] made (first_line g c.args.elements) (last_line c.args.verdicts.now)
    c.write_generated.new.bytes.items c.write_first.new.bytes.items c.write_last.new.bytes.items
    (c.in_ok-write_generated.ensures ∙ ap (λ (xs : List ℕ). xs ++ made) c.new-bytes.ensures.items)
    c.in_ok-write_first.ensures c.in_ok-write_last.ensures
