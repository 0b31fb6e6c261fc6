use Rattle.pk_state.proofs.Changed.{changes_sound}
use Rattle.pk_state.proofs.laws.changes_law.Goals as goal

pub returns : goal.returns
returns c = changes_sound
