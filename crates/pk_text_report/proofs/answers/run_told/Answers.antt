use Rattle.std.proofs.Common.{inl}
use Rattle.pk_graph.specs.Shown.{graph_view}
use Rattle.pk_cert_report.specs.Causes.{IsUnanalysed}
use Rattle.pk_text_report.specs.Answers.{options_of}
use Rattle.pk_text_report.proofs.Ending.{cut_so, handed_on, run_so}
use Rattle.pk_text_report.proofs.answers.run_told.Goals as goal

pub returns-in_err-graph-clause-stopped : goal.returns-in_err-graph-clause-stopped
returns-in_err-graph-clause-stopped g c =
    handed_on c.args.text.now c.as_str.result.now c.args.options.now.entry (IsUnanalysed c.args.text.now c.args.options.now.entry (options_of c.args.options.now) c.args.options.now.max_runs) c.from_residual.result c.in_err-graph.field-0.0 (λ s. inl) c.from_residual.ensures.1 c.as_str.ensures c.in_err-graph.ensures.none

pub graph_report-requires-clause-few : goal.graph_report-requires-clause-few
graph_report-requires-clause-few g c κs within = c.graphs_are_few.ensures c.args.text.now c.as_str.result.now (graph_view c.in_ok-graph.graph) c.in_ok-graph.ensures.graph

pub returns-in-Ok-clause-told : goal.returns-in-Ok-clause-told
returns-in-Ok-clause-told g c =
    run_so c.args.text.now c.as_str.result.now c.args.options.now (graph_view c.in_ok-graph.graph) c.iteration_of-iteration.result.analysis c.iteration_of-iteration.result.max_runs _ _
    c.as_str.ensures c.iteration_of-iteration.ensures.analysis c.iteration_of-iteration.ensures.runs c.in_ok-graph.ensures.graph c.in-Ok.ensures.ok

pub returns-clause-stopped : goal.returns-clause-stopped
returns-clause-stopped g c =
    cut_so c.args.text.now c.as_str.result.now c.args.options.now.entry (options_of c.args.options.now) c.iteration_of-iteration.result.analysis c.args.options.now.max_runs c.iteration_of-iteration.result.max_runs (graph_view c.in_ok-graph.graph)
    c.in-Err.why c.unanalysed_status.result c.as_str.ensures c.iteration_of-iteration.ensures.analysis c.iteration_of-iteration.ensures.runs c.in_ok-graph.ensures.graph c.in-Err.ensures.err c.unanalysed_status.ensures
