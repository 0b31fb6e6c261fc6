use Rattle.pk_octagons.proofs.One.{one_is_itself}
use Rattle.pk_octagons.proofs.laws.one_is_itself.Goals as goal

pub returns : goal.returns
returns c = one_is_itself
