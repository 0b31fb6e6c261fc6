use Rattle.pk_plan.proofs.Shapes.{shapes}
use Rattle.pk_plan.proofs.laws.shapes_meet.Goals as goal

pub returns : goal.returns
returns c = shapes
