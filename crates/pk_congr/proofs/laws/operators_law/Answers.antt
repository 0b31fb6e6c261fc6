use Rattle.pk_congr.proofs.Sound.{sound}
use Rattle.pk_congr.proofs.laws.operators_law.Goals as goal

pub returns : goal.returns
returns c = sound
