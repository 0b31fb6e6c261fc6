use Rattle.pk_graph_step.proofs.KeptLemmas.{steps_keep}
use Rattle.pk_graph_step.proofs.laws.step_law.Goals as goal

pub returns : goal.returns
returns c = steps_keep c.value_law.ensures
