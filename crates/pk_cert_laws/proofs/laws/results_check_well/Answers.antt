use Rattle.pk_cert_laws.proofs.Checking.{results_check_well}
use Rattle.pk_cert_laws.proofs.laws.results_check_well.Goals as goal

pub returns : goal.returns
returns c = results_check_well c.results_are_families.ensures
