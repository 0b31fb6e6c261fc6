use Rattle.std.proofs.Common.{subst, sym}
use Rattle.pk_graph.specs.Shown.{graph_view}
use Rattle.pk_iterate.specs.Behaviour.{ReadsWithin}
use Rattle.pk_phases.specs.Equations.{behaviour_of}
use Rattle.pk_analysis.specs.Flows.{equations_of}
use Rattle.pk_solver.proofs.Solved.{outcome_along, over_along}
use Rattle.pk_solver.proofs.iterating.cells_by_order.Goals as goal

pub iterate-requires-clause-reads : goal.iterate-requires-clause-reads
iterate-requires-clause-reads c κs outlives =
    let p = c.args.plan.now in
    let a = c.args.analysis.now in
    let system = c.requires.system.1 in
    let fits = c.analyses_fit.ensures (graph_view a.graph) c.args.options.now.analysis p c.requires.system.0 a system.analysis system.ordered in
    subst (ReadsWithin (behaviour_of (equations_of a))) (sym c.in_ok-order.ensures.elements) (c.fits_read_within.ensures p system.ordered.axioms fits)

pub iterate-requires-clause-most : goal.iterate-requires-clause-most
iterate-requires-clause-most c κs outlives = c.requires.range.runs

pub returns-in-Ok-clause-ok : goal.returns-in-Ok-clause-ok
returns-in-Ok-clause-ok c =
    outcome_along c.args.options.now.analysis c.args.plan.now c.args.analysis.now c.requires.system.0 c.in_ok-order.order.order c.requires.system.1 c.in_ok-order.ensures.linear
    c.in_ok-order.order.elements c.args.options.now.max_runs c.in-Ok.cells c.in_ok-order.ensures.elements c.in-Ok.ensures.ok

pub returns-in-Err-RunLimit-clause-err : goal.returns-in-Err-RunLimit-clause-err
returns-in-Err-RunLimit-clause-err c =
    let cause = rw c.in-Err-RunLimit.field-0-is at c.in-Err-RunLimit.ensures.err in
    over_along c.args.options.now.analysis c.args.plan.now c.args.analysis.now c.requires.system.0 c.in_ok-order.order.order c.requires.system.1 c.in_ok-order.ensures.linear
    c.in_ok-order.order.elements c.args.options.now.max_runs c.in_ok-order.ensures.elements cause.0.over
