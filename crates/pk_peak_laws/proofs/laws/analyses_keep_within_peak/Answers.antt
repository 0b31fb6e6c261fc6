use Rattle.pk_peak_laws.proofs.Lining.{analyses_keep_within_peak}
use Rattle.pk_peak_laws.proofs.laws.analyses_keep_within_peak.Goals as goal

pub returns : goal.returns
returns c = analyses_keep_within_peak
