use Rattle.pk_sound.proofs.Facts_stay.{transfers_stay}
use Rattle.pk_sound.proofs.laws.transfers_stay.Goals as goal

pub returns : goal.returns
returns c = transfers_stay
