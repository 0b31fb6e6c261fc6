use Rattle.pk_computed_laws.proofs.Faults.{faults_are_computed}
use Rattle.pk_computed_laws.proofs.laws.faults_are_computed.Goals as goal

pub returns : goal.returns
returns c = faults_are_computed
