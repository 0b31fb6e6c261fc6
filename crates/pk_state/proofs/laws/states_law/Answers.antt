use Rattle.pk_state.proofs.Sound.{states_sound}
use Rattle.pk_state.proofs.laws.states_law.Goals as goal

pub returns : goal.returns
returns c = states_sound
