use Rattle.pk_cert_laws.proofs.Checking.{read_cells_are_checked}
use Rattle.pk_cert_laws.proofs.laws.read_cells_are_checked.Goals as goal

pub returns : goal.returns
returns c = read_cells_are_checked c.graphs_law.ensures c.every_check_ends.ensures
