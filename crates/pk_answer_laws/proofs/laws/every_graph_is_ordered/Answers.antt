use Rattle.pk_answer_laws.proofs.Analysing.{ordered}
use Rattle.pk_answer_laws.proofs.laws.every_graph_is_ordered.Goals as goal

pub returns : goal.returns
returns c = ordered c.every_digraph_has_an_order.ensures
