use Rattle.pk_graph.specs.Shown.{graph_view}
use Rattle.pk_graph_report.proofs.Reporting.{summary_so}
use Rattle.pk_text_report.proofs.answers.graph_summary.Goals as goal

pub returns-clause-ok : goal.returns-clause-ok
returns-clause-ok g c =
    summary_so (graph_view c.args.graph.now) c.args.iteration.now.analysis c.args.iteration.now.max_runs c.args.options.now.seed c.args.options.now.size c.args.text_length
    c.in_ok-plan.plan c.in_ok-states.states _ _
    c.in_ok-states.ensures.ok c.in_ok-summary_of.ensures.bytes c.in_ok-summary_of.ensures.unknown
