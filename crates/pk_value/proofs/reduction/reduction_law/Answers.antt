use Rattle.pk_value.proofs.Reducing.{exact}
use Rattle.pk_value.proofs.reduction.reduction_law.Goals as goal

pub returns : goal.returns
returns c = exact
