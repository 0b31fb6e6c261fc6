use Rattle.pk_octclose.proofs.Stays.{closed_stay}
use Rattle.pk_octclose.proofs.laws.closed_stay_closed.Goals as goal

pub returns : goal.returns
returns c = closed_stay
