use Rattle.pk_order_laws.proofs.Ordering.{every_digraph_has_an_order}
use Rattle.pk_order_laws.proofs.laws.every_digraph_has_an_order.Goals as goal

pub returns : goal.returns
returns c = every_digraph_has_an_order
