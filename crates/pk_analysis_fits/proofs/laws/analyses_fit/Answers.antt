use Rattle.pk_analysis_fits.proofs.Analysing.{analyses}
use Rattle.pk_analysis_fits.proofs.laws.analyses_fit.Goals as goal

pub returns : goal.returns
returns c = analyses
