use Rattle.pk_cert_check.proofs.Every.{every_check_ends}
use Rattle.pk_cert_check.proofs.laws.every_check_ends.Goals as goal

pub returns : goal.returns
returns c = every_check_ends c.families_are_tested.ensures
