use Rattle.std.proofs.Common.{codes, inl, refl}
use Rattle.pk_graph.specs.Shown.{graph_view}
use Rattle.pk_cert_report.specs.Causes.{IsUnanalysed}
use Rattle.pk_text_report.specs.Answers.{default_options, default_runs}
use Rattle.pk_text_report.proofs.Ending.{cut_so, handed_on, made_so}
use Rattle.pk_text_report.proofs.answers.gen_told.Goals as goal

pub returns-in_err-graph-clause-stopped : goal.returns-in_err-graph-clause-stopped
returns-in_err-graph-clause-stopped g c =
    handed_on c.args.text.now (codes "main") (codes "main") (IsUnanalysed c.args.text.now (codes "main") default_options default_runs) c.from_residual.result c.in_err-graph.field-0.0 (λ s. inl) c.from_residual.ensures.1 refl c.in_err-graph.ensures.none

pub graph_summary-requires-clause-few : goal.graph_summary-requires-clause-few
graph_summary-requires-clause-few g c κs within = c.graphs_are_few.ensures c.args.text.now (codes "main") (graph_view c.in_ok-graph.graph) c.in_ok-graph.ensures.graph

pub returns-in-Ok-clause-told : goal.returns-in-Ok-clause-told
returns-in-Ok-clause-told g c =
    made_so c.args.text.now (codes "main") c.args.options.now (graph_view c.in_ok-graph.graph) c.default_iteration-iteration.result.analysis c.default_iteration-iteration.result.max_runs _ _ _
    refl c.default_iteration-iteration.ensures.analysis c.default_iteration-iteration.ensures.runs refl c.in_ok-graph.ensures.graph c.in-Ok.ensures.ok

pub returns-clause-stopped : goal.returns-clause-stopped
returns-clause-stopped g c =
    cut_so c.args.text.now (codes "main") (codes "main") default_options c.default_iteration-iteration.result.analysis default_runs c.default_iteration-iteration.result.max_runs (graph_view c.in_ok-graph.graph)
    c.in-Err.why c.unanalysed_status.result refl c.default_iteration-iteration.ensures.analysis c.default_iteration-iteration.ensures.runs c.in_ok-graph.ensures.graph c.in-Err.ensures.err c.unanalysed_status.ensures
