use Rattle.std.proofs.Common.{ap, ◌∙◌, ◌++◌, List, [], ℕ, false}
use Rattle.pk_graph.specs.Shown.{graph_view}
use Rattle.pk_report.specs.Reports.{valid_line}
use Rattle.pk_graph_report.proofs.Telling.{many_told, checked_told, count_told}
use Rattle.pk_graph_report.proofs.answers.checked_of.Goals as goal

pub end-requires-clause-verdicts : goal.end-requires-clause-verdicts
end-requires-clause-verdicts c =
    many_told c.reports_are_joined.ensures (graph_view c.args.graph.now) c.args.states.now false [] c.write_valid.new.bytes.items c.in_ok-report.report c.in_ok-report.ensures

pub returns-clause-bytes : goal.returns-clause-bytes
returns-clause-bytes c =
    let g = graph_view c.args.graph.now in
    checked_told c.reports_are_joined.ensures g c.args.states.now c.write_valid.new.bytes.items c.in_ok-report.report c.in_ok-told.told.0.items
    (c.in_ok-write_valid.ensures ∙ ap (λ (bs : List ℕ). bs ++ valid_line g) c.new-first.ensures.items)
    c.in_ok-report.ensures c.in_ok-told.ensures.bytes

pub returns-clause-unknown : goal.returns-clause-unknown
returns-clause-unknown c =
    count_told c.reports_are_joined.ensures (graph_view c.args.graph.now) c.args.states.now false [] c.write_valid.new.bytes.items c.in_ok-report.report c.in_ok-report.ensures
    c.in_ok-told.told.1 c.in_ok-told.ensures.unknown
