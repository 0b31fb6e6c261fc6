use Rattle.pk_text_graph.proofs.Determined.{graph_determined}
use Rattle.pk_text_graph.proofs.laws.graph_is_determined.Goals as goal

pub returns : goal.returns
returns c = graph_determined c.way_is_determined.ensures
