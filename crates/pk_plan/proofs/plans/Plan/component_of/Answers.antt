use Rattle.pk_plan.proofs.Shapes.{of_exit, exit_is}
use Rattle.pk_plan.proofs.plans.Plan.component_of.Goals as goal

pub returns-clause-of : goal.returns-clause-of
returns-clause-of c = rw (c.components.ensures, c.points.ensures) (of_exit c.args.self.now c.args.x c.requires)

pub returns-clause-exit : goal.returns-clause-exit
returns-clause-exit c = rw (c.components.ensures, c.points.ensures) (exit_is c.args.self.now c.args.x c.axioms.ensures.axioms c.requires)
