use Rattle.pk_sound.proofs.Bounding.{families_bound}
use Rattle.pk_sound.proofs.laws.families_bound.Goals as goal

pub returns : goal.returns
returns c = families_bound
