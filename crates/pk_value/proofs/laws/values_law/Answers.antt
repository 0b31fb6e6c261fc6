use Rattle.pk_value.proofs.Sound.{values_sound}
use Rattle.pk_value.proofs.laws.values_law.Goals as goal

pub returns : goal.returns
returns c = values_sound
