use Rattle.pk_congr.proofs.Widening.{divisions_are_ranks}
use Rattle.pk_congr.proofs.laws.rank_law.Goals as goal

pub returns : goal.returns
returns c = divisions_are_ranks
