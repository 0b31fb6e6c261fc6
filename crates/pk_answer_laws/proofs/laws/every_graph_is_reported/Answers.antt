use Rattle.pk_answer_laws.proofs.Analysing.{reported}
use Rattle.pk_answer_laws.proofs.laws.every_graph_is_reported.Goals as goal

pub returns : goal.returns
returns c = reported c.every_digraph_has_an_order.ensures
