use Rattle.pk_octclose.proofs.Same.{closing_of_points}
use Rattle.pk_octclose.proofs.laws.closing_is_of_points.Goals as goal

pub returns : goal.returns
returns c = closing_of_points
