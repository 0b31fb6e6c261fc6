use Rattle.pk_loop_texts.proofs.Texts.{loops_are_apart}
use Rattle.pk_loop_texts.proofs.laws.loops_are_apart.Goals as goal

pub returns : goal.returns
returns c = loops_are_apart
