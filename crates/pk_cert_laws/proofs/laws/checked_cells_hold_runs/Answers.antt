use Rattle.pk_cert_laws.proofs.Holding.{checked_cells_hold_runs}
use Rattle.pk_cert_laws.proofs.laws.checked_cells_hold_runs.Goals as goal

pub returns : goal.returns
returns c = checked_cells_hold_runs c.graphs_law.ensures c.families_hold_runs.ensures c.families_judge.ensures c.families_bound.ensures c.families_tell_faults.ensures
