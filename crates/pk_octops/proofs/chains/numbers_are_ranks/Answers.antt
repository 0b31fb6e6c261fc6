use Rattle.pk_octops.proofs.Counting.{numbers_are_ranks}
use Rattle.pk_octops.proofs.chains.numbers_are_ranks.Goals as goal

pub returns : goal.returns
returns c = numbers_are_ranks
