use Rattle.pk_order_laws.proofs.Placing.{every_plan_has_a_linear_order}
use Rattle.pk_order_laws.proofs.laws.every_plan_has_a_linear_order.Goals as goal

pub returns : goal.returns
returns c = every_plan_has_a_linear_order
