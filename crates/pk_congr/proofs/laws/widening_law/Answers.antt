use Rattle.pk_congr.proofs.Widening.{widening_ends}
use Rattle.pk_congr.proofs.laws.widening_law.Goals as goal

pub returns : goal.returns
returns c = widening_ends
