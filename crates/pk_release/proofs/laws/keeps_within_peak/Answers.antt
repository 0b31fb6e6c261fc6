use Rattle.pk_release.proofs.Counting.{keeps_within_peak}
use Rattle.pk_release.proofs.laws.keeps_within_peak.Goals as goal

pub returns : goal.returns
returns g c = keeps_within_peak g.row.Y-Cell.Denot
