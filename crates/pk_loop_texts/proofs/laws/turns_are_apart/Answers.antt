use Rattle.pk_loop_texts.proofs.Turns.{turns_are_apart}
use Rattle.pk_loop_texts.proofs.laws.turns_are_apart.Goals as goal

pub returns : goal.returns
returns c = turns_are_apart
