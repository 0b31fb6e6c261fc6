use Rattle.pk_type.proofs.BareLemmas.{same_unit}
use Rattle.pk_type.proofs.laws.checks_leave_the_unit.Goals as goal

pub returns : goal.returns
returns g c = same_unit
