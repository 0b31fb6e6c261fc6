use Rattle.pk_octops.proofs.Counting.{step_loses}
use Rattle.pk_octops.proofs.chains.widening_loses_numbers.Goals as goal

pub returns : goal.returns
returns c = step_loses
