use Rattle.pk_sound.proofs.Failing.{faults_are_accesses}
use Rattle.pk_sound.proofs.laws.faults_are_accesses.Goals as goal

pub returns : goal.returns
returns c = faults_are_accesses
