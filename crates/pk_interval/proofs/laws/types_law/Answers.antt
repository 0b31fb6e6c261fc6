use Rattle.pk_interval.proofs.Keeping.{stays}
use Rattle.pk_interval.proofs.laws.types_law.Goals as goal

pub returns : goal.returns
returns c = stays
