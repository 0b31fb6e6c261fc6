use Rattle.pk_calls.proofs.SoundLemmas.{no_function_twice}
use Rattle.pk_calls.proofs.laws.no_function_twice.Goals as goal

pub returns : goal.returns
returns c = no_function_twice
