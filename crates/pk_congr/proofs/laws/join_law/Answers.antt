use Rattle.pk_congr.proofs.Order.{join_is_least}
use Rattle.pk_congr.proofs.laws.join_law.Goals as goal

pub returns : goal.returns
returns c = join_is_least
