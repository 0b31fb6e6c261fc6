use Rattle.pk_sound.proofs.Verdicts.{families_judge}
use Rattle.pk_sound.proofs.laws.families_judge.Goals as goal

pub returns : goal.returns
returns c = families_judge
