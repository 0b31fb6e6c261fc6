use Rattle.pk_answer_laws.proofs.Replying.{order_words_answered}
use Rattle.pk_answer_laws.proofs.laws.words_for_orders_are_answered.Goals as goal

pub returns : goal.returns
returns c = order_words_answered c.orders_are_answered.ensures
