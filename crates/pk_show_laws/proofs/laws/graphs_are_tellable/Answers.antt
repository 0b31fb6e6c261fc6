use Rattle.pk_show_laws.proofs.TellableLemmas.{graphs_are_tellable}
use Rattle.pk_show_laws.proofs.laws.graphs_are_tellable.Goals as goal

pub returns : goal.returns
returns c = graphs_are_tellable
