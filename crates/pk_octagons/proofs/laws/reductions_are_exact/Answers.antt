use Rattle.pk_octagons.proofs.Numbers.{reductions_exact}
use Rattle.pk_octagons.proofs.laws.reductions_are_exact.Goals as goal

pub returns : goal.returns
returns c = reductions_exact
