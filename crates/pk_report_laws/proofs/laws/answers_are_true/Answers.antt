use Rattle.pk_text_report.specs.Answers.{options_of}
use Rattle.pk_report_laws.proofs.laws.answers_are_true.Goals as goal

pub returns : goal.returns
returns c text o unknown bytes run few =
    c.reports_are_true.ensures run.graph (options_of o) o.max_runs run.report.plan run.report.states (c.graphs_are_well_made.ensures text o.entry run.graph run.has_graph) few run.report.are_states
