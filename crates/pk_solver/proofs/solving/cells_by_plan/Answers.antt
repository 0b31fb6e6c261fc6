use denote.Param.Send.{sendable}
use Rattle.pk_analysis.proofs.Shared.{analysis_sync}
use Rattle.pk_graph.specs.Shown.{graph_view}
use Rattle.pk_solver.proofs.Solved.{exceeded_over, has_end, outcome_of}
use Rattle.pk_solver.proofs.solving.cells_by_plan.Goals as goal

pub run_workers-requires-clause-fits : goal.run_workers-requires-clause-fits
run_workers-requires-clause-fits g c κs within =
    c.analyses_fit.ensures (graph_view c.args.analysis.now.graph) c.args.options.now.analysis c.args.plan.now c.requires.system.0 c.args.analysis.now c.requires.system.1.analysis c.requires.system.1.ordered

pub run_workers-requires-clause-ends : goal.run_workers-requires-clause-ends
run_workers-requires-clause-ends g c κs within =
    has_end c.args.options.now.analysis c.args.plan.now c.args.analysis.now c.requires.system.0 c.requires.system.1
    c.analyses_end.ensures c.linear_orders_are_orders.ensures c.requires.made c.requires.range.oct

pub run_workers-requires-clause-workers : goal.run_workers-requires-clause-workers
run_workers-requires-clause-workers g c κs within = c.requires.workers

pub run_workers-requires-clause-most : goal.run_workers-requires-clause-most
run_workers-requires-clause-most g c κs within = c.requires.range.runs

pub run_workers-requires-sync-Y : goal.run_workers-requires-sync-Y
run_workers-requires-sync-Y g c = search (analysis_sync, sendable)

pub returns-in-Ok-clause-ok : goal.returns-in-Ok-clause-ok
returns-in-Ok-clause-ok g c =
    outcome_of c.args.options.now.analysis c.args.plan.now c.args.analysis.now c.requires.system.0 c.requires.system.1
    c.analyses_end.ensures c.linear_orders_are_orders.ensures c.requires.made c.requires.range.oct
    c.args.options.now.max_runs c.in-Ok.cells c.in-Ok.ensures.ok

pub returns-in-Err-RunLimit-clause-err : goal.returns-in-Err-RunLimit-clause-err
returns-in-Err-RunLimit-clause-err g c =
    exceeded_over c.args.options.now.analysis c.args.plan.now c.args.analysis.now c.requires.system.0 c.requires.system.1
    c.analyses_end.ensures c.linear_orders_are_orders.ensures c.requires.made c.requires.range.oct
    c.args.options.now.max_runs _ _ (rw c.in-Err-RunLimit.field-0-is at c.in-Err-RunLimit.ensures.err)
