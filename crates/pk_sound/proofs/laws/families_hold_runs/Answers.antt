use Rattle.pk_sound.proofs.Holding.{families_hold_runs}
use Rattle.pk_sound.proofs.laws.families_hold_runs.Goals as goal

pub returns : goal.returns
returns c = families_hold_runs
