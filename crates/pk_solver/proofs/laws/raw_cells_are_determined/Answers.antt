use Rattle.pk_solver.proofs.Determined.{raw_cells_are_determined}
use Rattle.pk_solver.proofs.laws.raw_cells_are_determined.Goals as goal

pub returns : goal.returns
returns c = raw_cells_are_determined c.order_is_determined.ensures
