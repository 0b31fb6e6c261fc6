use Rattle.pk_octagons.proofs.Sound.{octagons_sound}
use Rattle.pk_octagons.proofs.laws.octagons_are_sound.Goals as goal

pub returns : goal.returns
returns c = octagons_sound
