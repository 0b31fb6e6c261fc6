use Rattle.pk_transfer.proofs.Layouting.{graphs_over}
use Rattle.pk_transfer.proofs.laws.graphs_law.Goals as goal

pub returns : goal.returns
returns c = graphs_over
