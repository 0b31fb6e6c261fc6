use Rattle.pk_answer_laws.proofs.Limiting.{enough_summed}
use Rattle.pk_answer_laws.proofs.laws.enough_is_summed.Goals as goal

pub returns : goal.returns
returns c = enough_summed c.every_graph_is_summed.ensures c.limits_are_low.ensures
