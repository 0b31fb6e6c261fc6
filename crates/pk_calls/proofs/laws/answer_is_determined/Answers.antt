use Rattle.pk_calls.proofs.Determined.{answer_determined}
use Rattle.pk_calls.proofs.laws.answer_is_determined.Goals as goal

pub returns : goal.returns
returns c = answer_determined
