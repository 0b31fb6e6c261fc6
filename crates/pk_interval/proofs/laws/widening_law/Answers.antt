use Rattle.pk_interval.proofs.Ends.{widens}
use Rattle.pk_interval.proofs.laws.widening_law.Goals as goal

pub returns : goal.returns
returns c = widens
