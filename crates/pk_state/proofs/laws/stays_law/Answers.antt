use Rattle.pk_state.proofs.Held.{facts_stay}
use Rattle.pk_state.proofs.laws.stays_law.Goals as goal

pub returns : goal.returns
returns c = facts_stay
