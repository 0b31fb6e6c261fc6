use Rattle.pk_sound.proofs.Holding.{result_holds_runs}
use Rattle.pk_sound.proofs.laws.result_holds_runs.Goals as goal

pub returns : goal.returns
returns c = result_holds_runs
