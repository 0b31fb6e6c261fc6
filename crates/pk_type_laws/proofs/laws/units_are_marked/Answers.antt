use Rattle.pk_type_laws.proofs.Marked.Units.{units_are_marked}
use Rattle.pk_type_laws.proofs.laws.units_are_marked.Goals as goal

pub returns : goal.returns
returns c = units_are_marked
