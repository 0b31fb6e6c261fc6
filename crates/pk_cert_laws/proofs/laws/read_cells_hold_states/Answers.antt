use Rattle.pk_cert_laws.proofs.Checking.{read_cells_hold_states}
use Rattle.pk_cert_laws.proofs.laws.read_cells_hold_states.Goals as goal

pub returns : goal.returns
returns c = read_cells_hold_states
