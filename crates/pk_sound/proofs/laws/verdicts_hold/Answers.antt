use Rattle.pk_sound.proofs.Verdicts.{verdicts_hold}
use Rattle.pk_sound.proofs.laws.verdicts_hold.Goals as goal

pub returns : goal.returns
returns c = verdicts_hold
