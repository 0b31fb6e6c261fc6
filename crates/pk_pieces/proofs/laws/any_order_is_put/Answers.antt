use Rattle.pk_pieces.proofs.Orders.{any_order}
use Rattle.pk_pieces.proofs.laws.any_order_is_put.Goals as goal

pub returns : goal.returns
returns c = any_order
