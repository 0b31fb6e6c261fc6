use Rattle.pk_analysis_laws.proofs.Ranks.Ranked.{states_are_ranked}
use Rattle.pk_analysis_laws.proofs.laws.states_are_ranked.Goals as goal

pub returns : goal.returns
returns c = states_are_ranked
