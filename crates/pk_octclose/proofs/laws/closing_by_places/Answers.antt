use Rattle.pk_octclose.proofs.Floyd.{closing_right}
use Rattle.pk_octclose.proofs.laws.closing_by_places.Goals as goal

pub returns : goal.returns
returns c = closing_right
