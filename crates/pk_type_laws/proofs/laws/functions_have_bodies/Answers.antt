use Rattle.pk_type_laws.proofs.Bodies.Units.{functions_have_bodies}
use Rattle.pk_type_laws.proofs.laws.functions_have_bodies.Goals as goal

pub returns : goal.returns
returns c = functions_have_bodies
