use Rattle.pk_sound.proofs.Solving.{result_is_solved}
use Rattle.pk_sound.proofs.laws.result_is_solved.Goals as goal

pub returns : goal.returns
returns c = result_is_solved
