use Rattle.pk_octagons.proofs.One.{resting_stay}
use Rattle.pk_octagons.proofs.laws.resting_stay.Goals as goal

pub returns : goal.returns
returns c = resting_stay
