use Rattle.pk_answer_laws.proofs.Limiting.{enough_reported}
use Rattle.pk_answer_laws.proofs.laws.enough_is_reported.Goals as goal

pub returns : goal.returns
returns c = enough_reported c.every_graph_is_reported.ensures c.limits_are_low.ensures
