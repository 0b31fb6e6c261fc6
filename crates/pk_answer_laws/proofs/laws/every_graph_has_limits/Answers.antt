use Rattle.pk_answer_laws.proofs.Limiting.{limits}
use Rattle.pk_answer_laws.proofs.laws.every_graph_has_limits.Goals as goal

pub returns : goal.returns
returns c = limits c.every_digraph_has_an_order.ensures c.order_is_determined.ensures
