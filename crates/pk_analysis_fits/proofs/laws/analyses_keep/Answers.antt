use Rattle.pk_analysis_fits.proofs.Analysing.{analyses_kept}
use Rattle.pk_analysis_fits.proofs.laws.analyses_keep.Goals as goal

pub returns : goal.returns
returns c = analyses_kept
