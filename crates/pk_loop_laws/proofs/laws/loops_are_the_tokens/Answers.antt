use Rattle.pk_loop_laws.proofs.Derived.{loops_are_the_tokens}
use Rattle.pk_loop_laws.proofs.laws.loops_are_the_tokens.Goals as goal

pub returns : goal.returns
returns c = loops_are_the_tokens
