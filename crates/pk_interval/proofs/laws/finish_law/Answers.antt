use Rattle.pk_interval.proofs.Keeping.{finishes}
use Rattle.pk_interval.proofs.laws.finish_law.Goals as goal

pub returns : goal.returns
returns c = finishes
