use Rattle.pk_congr.proofs.Sound.{wrapping_sound}
use Rattle.pk_congr.proofs.laws.wrapping_law.Goals as goal

pub returns : goal.returns
returns c = wrapping_sound
