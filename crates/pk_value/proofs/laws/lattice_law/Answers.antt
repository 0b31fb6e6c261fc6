use Rattle.pk_value.proofs.Orders.{lattice}
use Rattle.pk_value.proofs.laws.lattice_law.Goals as goal

pub returns : goal.returns
returns c = lattice
