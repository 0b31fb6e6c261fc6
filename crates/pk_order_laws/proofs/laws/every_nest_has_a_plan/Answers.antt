use Rattle.pk_order_laws.proofs.Drawing.{every_nest_has_a_plan}
use Rattle.pk_order_laws.proofs.laws.every_nest_has_a_plan.Goals as goal

pub returns : goal.returns
returns c = every_nest_has_a_plan
