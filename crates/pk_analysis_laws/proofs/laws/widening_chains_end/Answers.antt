use Rattle.pk_analysis_laws.proofs.Ranks.Ranked.{widening_chains_end}
use Rattle.pk_analysis_laws.proofs.laws.widening_chains_end.Goals as goal

pub returns : goal.returns
returns c = widening_chains_end
