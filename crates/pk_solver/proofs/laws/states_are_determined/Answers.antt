use Rattle.pk_solver.proofs.Determined.{states_are_determined}
use Rattle.pk_solver.proofs.laws.states_are_determined.Goals as goal

pub returns : goal.returns
returns c = states_are_determined c.order_is_determined.ensures
