use Rattle.pk_text_graph.proofs.Counting.{graphs_are_few}
use Rattle.pk_text_graph.proofs.laws.graphs_are_few.Goals as goal

pub returns : goal.returns
returns c = graphs_are_few c.texts_are_well_typed.ensures c.drafts_of_texts_are_typed.ensures c.drafts_have_labels.ensures
