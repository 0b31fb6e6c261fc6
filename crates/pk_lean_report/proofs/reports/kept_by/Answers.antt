use denote.Param.Send.{sendable}
use Rattle.pk_parts.proofs.Shared.{reporting_sync}
use Rattle.pk_parts.specs.Kept.{graph_in}
use Rattle.pk_solver.proofs.Solved.{exceeded_over, has_end, outcome_of}
use Rattle.pk_lean_report.proofs.reports.kept_by.Goals as goal

pub run_workers_lean-requires-clause-fits : goal.run_workers_lean-requires-clause-fits
run_workers_lean-requires-clause-fits g c κs within =
    c.analyses_fit.ensures (graph_in c.args.reporting.now) c.args.options.now.analysis c.args.plan.now c.requires.system.0 c.args.reporting.now.flow c.requires.system.1.analysis c.requires.system.1.ordered

pub run_workers_lean-requires-clause-ends : goal.run_workers_lean-requires-clause-ends
run_workers_lean-requires-clause-ends g c κs within =
    has_end c.args.options.now.analysis c.args.plan.now c.args.reporting.now.flow c.requires.system.0 c.requires.system.1
    c.analyses_end.ensures c.linear_orders_are_orders.ensures c.requires.made c.requires.range.oct

pub run_workers_lean-requires-clause-most : goal.run_workers_lean-requires-clause-most
run_workers_lean-requires-clause-most g c κs within = c.requires.range.runs

pub run_workers_lean-requires-sync-Y : goal.run_workers_lean-requires-sync-Y
run_workers_lean-requires-sync-Y g c = search (reporting_sync, sendable)

pub returns-in-Ok-clause-ok : goal.returns-in-Ok-clause-ok
returns-in-Ok-clause-ok g c =
    let it = c.in-Ok.ensures.ok in
    record {
      outcome = it.outcome;
      is = outcome_of c.args.options.now.analysis c.args.plan.now c.args.reporting.now.flow c.requires.system.0 c.requires.system.1
          c.analyses_end.ensures c.linear_orders_are_orders.ensures c.requires.made c.requires.range.oct
          c.args.options.now.max_runs it.outcome it.result;
      made = it.made;
    }

pub returns-in-Err-RunLimit-clause-err : goal.returns-in-Err-RunLimit-clause-err
returns-in-Err-RunLimit-clause-err g c =
    exceeded_over c.args.options.now.analysis c.args.plan.now c.args.reporting.now.flow c.requires.system.0 c.requires.system.1
    c.analyses_end.ensures c.linear_orders_are_orders.ensures c.requires.made c.requires.range.oct
    c.args.options.now.max_runs _ _ (rw c.in-Err-RunLimit.field-0-is at c.in-Err-RunLimit.ensures.err)
