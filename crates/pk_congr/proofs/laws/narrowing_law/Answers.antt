use Rattle.pk_congr.proofs.Next.{narrowing}
use Rattle.pk_congr.proofs.laws.narrowing_law.Goals as goal

pub returns : goal.returns
returns c = narrowing
