use Rattle.pk_linear.proofs.Determined.{linear_same}
use Rattle.pk_linear.proofs.laws.linear_is_determined.Goals as goal

pub returns : goal.returns
returns c = λ one other linear_one linear_other. linear_same c.args.plan.now one other c.axioms.ensures.axioms linear_one linear_other
