use Rattle.pk_sound.proofs.Testing.{families_are_tested}
use Rattle.pk_sound.proofs.laws.families_are_tested.Goals as goal

pub returns : goal.returns
returns c = families_are_tested
