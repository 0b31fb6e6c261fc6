use Rattle.pk_state.proofs.Changed.{changes_stay}
use Rattle.pk_state.proofs.laws.written_law.Goals as goal

pub returns : goal.returns
returns c = changes_stay
