use Rattle.pk_order.proofs.Determined.{heads_same, elements_same, order_same}
use Rattle.pk_order.proofs.orders.order_is_determined.Goals as goal

pub returns : goal.returns
returns c = record { heads = heads_same; elements = elements_same; order = order_same }
