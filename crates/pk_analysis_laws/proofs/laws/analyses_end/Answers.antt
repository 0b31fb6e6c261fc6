use Rattle.pk_analysis_laws.proofs.Turns.Ending.{analyses_end}
use Rattle.pk_analysis_laws.proofs.laws.analyses_end.Goals as goal

pub returns : goal.returns
returns c = analyses_end
