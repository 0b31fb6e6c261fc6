use Rattle.std.specs.Prelude.{IfOk, IfErr, Bool}
use Rattle.std.proofs.Common.{sym, subst}
use Rattle.pk_graph.specs.Graphs.{GraphOf, kinds_of}
use Rattle.pk_graph.specs.Shown.{graph_view}
use Rattle.pk_state.specs.Layouts.{Layout}
use Rattle.pk_transfer.specs.Trees.{IsOver}
use Rattle.pk_solver.specs.Solved.{IsCause}
use Rattle.pk_graph_report.specs.Reported.{IsReport}
use Rattle.pk_lean_report.proofs.Told.{made_so, system_so, heads_so, told_so}
use Rattle.pk_lean_report.proofs.reports.lean_report.Goals as goal

pub analysis_of-requires : goal.analysis_of-requires
analysis_of-requires g c = record { prepared = c.in_ok-plan.ensures.ok }

pub new-requires-clause-graph : goal.new-requires-clause-graph
new-requires-clause-graph g c = sym c.in_ok-analysis.ensures.graph

pub new-requires-clause-layout : goal.new-requires-clause-layout
new-requires-clause-layout g c = sym c.in_ok-analysis.ensures.layout

pub new-requires-clause-over : goal.new-requires-clause-over
new-requires-clause-over g c =
    subst (λ (l : Layout). IsOver (kinds_of (graph_view c.args.graph.now)) l) (sym c.in_ok-plan.ensures.ok.layout)
    (c.layouts_law.ensures.over (graph_view c.args.graph.now) c.in_ok-plan.plan c.args.options.now.analysis)

pub report_by-told-requires-clause-few : goal.report_by-told-requires-clause-few
report_by-told-requires-clause-few g c κs within = c.in_ok-plan.ensures.ok.elements

pub report_by-told-requires-clause-made : goal.report_by-told-requires-clause-made
report_by-told-requires-clause-made g c κs within = made_so c.in_ok-analysis.analysis c.in_ok-reporting.reporting c.in_ok-reporting.ensures c.in_ok-analysis.ensures.made

pub report_by-told-requires-clause-system : goal.report_by-told-requires-clause-system
report_by-told-requires-clause-system g c κs within =
    system_so c.args.options.now.analysis c.in_ok-plan.plan c.in_ok-analysis.analysis c.in_ok-reporting.reporting c.in_ok-reporting.ensures c.in_ok-analysis.ensures.system

pub report_by-told-requires-clause-heads : goal.report_by-told-requires-clause-heads
report_by-told-requires-clause-heads g c κs within =
    heads_so c.in_ok-plan.plan c.in_ok-analysis.analysis c.in_ok-reporting.reporting c.in_ok-reporting.ensures c.in_ok-heads.ensures

pub returns-clause-ok : goal.returns-clause-ok
returns-clause-ok g c =
    told_so c.in_ok-analysis.analysis c.args.all c.in_ok-reporting.reporting c.in_ok-reporting.ensures (graph_view c.args.graph.now) c.in_ok-analysis.ensures.graph
    (λ (h : GraphOf) (all : Bool). IfOk c.report_by-told.result (λ r. IsReport h c.args.options.now.analysis c.args.options.now.max_runs all r.1 r.0.items)) c.report_by-told.ensures.ok

pub returns-clause-err : goal.returns-clause-err
returns-clause-err g c =
    told_so c.in_ok-analysis.analysis c.args.all c.in_ok-reporting.reporting c.in_ok-reporting.ensures (graph_view c.args.graph.now) c.in_ok-analysis.ensures.graph
    (λ (h : GraphOf) (all : Bool). IfErr c.report_by-told.result (IsCause h c.args.options.now.analysis c.args.options.now.max_runs)) c.report_by-told.ensures.err
