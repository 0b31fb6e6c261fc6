use Rattle.pk_analysis_laws.proofs.Turns.Ending.{graph_chains_end}
use Rattle.pk_analysis_laws.proofs.laws.graph_chains_end.Goals as goal

pub returns : goal.returns
returns c = graph_chains_end
