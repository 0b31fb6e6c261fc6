use Rattle.pk_value.proofs.Orders.{rank}
use Rattle.pk_value.proofs.laws.ranks_law.Goals as goal

pub returns : goal.returns
returns c = rank
