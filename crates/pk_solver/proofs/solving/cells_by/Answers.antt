use Rattle.std.proofs.lemmas.Result.{IfOk-weaker}
use Rattle.pk_solver.proofs.Outcomes.{cells_over_so}
use Rattle.pk_solver.proofs.solving.cells_by.Goals as goal

pub returns-then-not-watches-clause-over : goal.returns-then-not-watches-clause-over
returns-then-not-watches-clause-over g c =
    IfOk-weaker c.cells_by_order.result _ _
    (λ it x. cells_over_so c.args.options.now.analysis c.args.plan.now c.args.analysis.now c.args.options.now.max_runs it x c.cells_are_held.ensures)
    c.cells_by_order.ensures.ok

pub returns-else-workers-eq1-clause-over : goal.returns-else-workers-eq1-clause-over
returns-else-workers-eq1-clause-over g c =
    IfOk-weaker c.cells_by_plan.result _ _
    (λ it x. cells_over_so c.args.options.now.analysis c.args.plan.now c.args.analysis.now c.args.options.now.max_runs it x c.cells_are_held.ensures)
    c.cells_by_plan.ensures.ok
