use Rattle.pk_interval.proofs.Ends.{moves_are_ranks}
use Rattle.pk_interval.proofs.laws.rank_law.Goals as goal

pub returns : goal.returns
returns c = moves_are_ranks
