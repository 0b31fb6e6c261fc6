use Rattle.pk_analysis_laws.proofs.Ranks.Staying.{states_stay}
use Rattle.pk_analysis_laws.proofs.laws.states_stay.Goals as goal

pub returns : goal.returns
returns c = states_stay
