use Rattle.pk_answer_laws.proofs.Replying.{orders}
use Rattle.pk_answer_laws.proofs.laws.orders_are_answered.Goals as goal

pub returns : goal.returns
returns c = orders c.every_graph_is_ordered.ensures c.every_text_ends.ensures c.graphs_are_well_made.ensures
