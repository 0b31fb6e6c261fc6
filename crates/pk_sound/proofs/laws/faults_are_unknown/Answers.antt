use Rattle.pk_sound.proofs.Verdicts.{faults_are_unknown}
use Rattle.pk_sound.proofs.laws.faults_are_unknown.Goals as goal

pub returns : goal.returns
returns c = faults_are_unknown
