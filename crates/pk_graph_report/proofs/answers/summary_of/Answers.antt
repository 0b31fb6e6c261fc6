use Rattle.std.proofs.Common.{ap, ◌∙◌, [], false}
use Rattle.pk_graph.specs.Shown.{graph_view}
use Rattle.pk_report.specs.Reports.{unknown_in}
use Rattle.pk_graph_report.proofs.Telling.{summary_told, verdicts_told}
use Rattle.pk_graph_report.proofs.answers.summary_of.Goals as goal

pub returns-clause-bytes : goal.returns-clause-bytes
returns-clause-bytes c =
    let g = graph_view c.args.graph.now in
    summary_told g c.args.states.now c.args.plan.now c.args.seed c.args.size c.args.text_length c.elements.result c.verdicts-verdicts.result.now c.in_ok-bytes.bytes.items c.elements.ensures
    (c.verdicts-verdicts.ensures
    ∙ verdicts_told c.reports_are_joined.ensures g c.args.states.now false [] c.new-first.result.items c.in_ok-report.report c.in_ok-report.ensures)
    c.in_ok-bytes.ensures

pub returns-clause-unknown : goal.returns-clause-unknown
returns-clause-unknown c =
    c.unknown_count.ensures
    ∙ ap unknown_in
    (c.verdicts-verdicts.ensures
    ∙ verdicts_told c.reports_are_joined.ensures (graph_view c.args.graph.now) c.args.states.now false [] c.new-first.result.items c.in_ok-report.report c.in_ok-report.ensures)
