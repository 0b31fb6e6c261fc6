use Rattle.pk_type_laws.proofs.Bodies.Units.{units_are_well_typed}
use Rattle.pk_type_laws.proofs.laws.accepted_units_are_well_typed.Goals as goal

pub returns : goal.returns
returns c = units_are_well_typed
