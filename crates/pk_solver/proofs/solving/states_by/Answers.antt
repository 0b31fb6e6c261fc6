use Rattle.pk_solver.proofs.Outcomes.{over_so, states_so}
use Rattle.pk_solver.proofs.solving.states_by.Goals as goal

pub of-requires-clause-points : goal.of-requires-clause-points
of-requires-clause-points g c = c.in_ok-cells.ensures.over.enough

pub of-requires-clause-held : goal.of-requires-clause-held
of-requires-clause-held g c = c.in_ok-cells.ensures.over.over

pub returns-clause-ok : goal.returns-clause-ok
returns-clause-ok g c =
    states_so c.args.options.now.analysis c.args.plan.now c.args.analysis.now c.args.options.now.max_runs c.in_ok-cells.cells c.in_ok-cells.ensures.ok
    c.of.result c.of.ensures

pub returns-clause-over : goal.returns-clause-over
returns-clause-over g c =
    over_so c.args.options.now.analysis c.args.plan.now c.args.analysis.now c.args.options.now.max_runs c.in_ok-cells.cells c.in_ok-cells.ensures.ok
    c.of.result c.of.ensures c.layouts_law.ensures c.in_ok-cells.ensures.over
