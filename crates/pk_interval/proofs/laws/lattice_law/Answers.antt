use Rattle.pk_interval.proofs.Order.{lattice}
use Rattle.pk_interval.proofs.laws.lattice_law.Goals as goal

pub returns : goal.returns
returns c = lattice
