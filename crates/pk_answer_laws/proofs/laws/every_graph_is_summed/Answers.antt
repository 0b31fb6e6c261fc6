use Rattle.pk_answer_laws.proofs.Analysing.{summed}
use Rattle.pk_answer_laws.proofs.laws.every_graph_is_summed.Goals as goal

pub returns : goal.returns
returns c = summed c.every_digraph_has_an_order.ensures
