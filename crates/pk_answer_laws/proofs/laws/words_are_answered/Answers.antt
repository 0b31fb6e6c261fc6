use Rattle.pk_answer_laws.proofs.Replying.{words_answered}
use Rattle.pk_answer_laws.proofs.laws.words_are_answered.Goals as goal

pub returns : goal.returns
returns c = words_answered c.commands_are_answered.ensures c.taken_asks.ensures
