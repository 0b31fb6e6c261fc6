use Rattle.pk_peak.proofs.Determined.{lines_same}
use Rattle.pk_peak.proofs.laws.order_lines_are_determined.Goals as goal

pub returns : goal.returns
returns c = lines_same c.order_is_determined.ensures
