use Rattle.pk_cert_check.proofs.Once.{one_check}
use Rattle.pk_cert_check.proofs.laws.one_check.Goals as goal

pub returns : goal.returns
returns c = one_check c.families_are_tested.ensures
