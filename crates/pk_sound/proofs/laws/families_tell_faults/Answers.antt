use Rattle.pk_sound.proofs.Verdicts.{families_tell_faults}
use Rattle.pk_sound.proofs.laws.families_tell_faults.Goals as goal

pub returns : goal.returns
returns c = families_tell_faults
