use Rattle.pk_loop_texts.proofs.Texts.{turns_of_texts_are_apart}
use Rattle.pk_loop_texts.proofs.laws.turns_of_texts_are_apart.Goals as goal

pub returns : goal.returns
returns c = turns_of_texts_are_apart
