use Rattle.pk_octops.proofs.Counting.{chain_ends}
use Rattle.pk_octops.proofs.chains.widening_chains_end.Goals as goal

pub returns : goal.returns
returns c = chain_ends
