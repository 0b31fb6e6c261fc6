use Rattle.pk_analysis_fits.proofs.Placed_tasks.{linear_orders}
use Rattle.pk_analysis_fits.proofs.laws.linear_orders_are_orders.Goals as goal

pub returns : goal.returns
returns c = linear_orders
