use Rattle.pk_interval.proofs.Keeping.{unchanged}
use Rattle.pk_interval.proofs.laws.unchanged_law.Goals as goal

pub returns : goal.returns
returns c = unchanged
