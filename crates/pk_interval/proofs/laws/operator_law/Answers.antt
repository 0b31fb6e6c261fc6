use Rattle.pk_interval.proofs.Sound.{sound}
use Rattle.pk_interval.proofs.laws.operator_law.Goals as goal

pub returns : goal.returns
returns c = sound
