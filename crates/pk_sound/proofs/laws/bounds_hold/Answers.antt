use Rattle.pk_sound.proofs.Bounding.{bounds_hold}
use Rattle.pk_sound.proofs.laws.bounds_hold.Goals as goal

pub returns : goal.returns
returns c = bounds_hold
