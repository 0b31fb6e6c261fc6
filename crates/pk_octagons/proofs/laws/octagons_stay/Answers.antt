use Rattle.pk_octagons.proofs.Stay.{octagons_stay}
use Rattle.pk_octagons.proofs.laws.octagons_stay.Goals as goal

pub returns : goal.returns
returns c = octagons_stay
