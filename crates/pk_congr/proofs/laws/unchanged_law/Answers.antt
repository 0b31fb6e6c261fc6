use Rattle.pk_congr.proofs.Keeping.{unchanged}
use Rattle.pk_congr.proofs.laws.unchanged_law.Goals as goal

pub returns : goal.returns
returns c = unchanged
