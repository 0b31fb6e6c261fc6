use Rattle.pk_report_laws.proofs.Runs.Checked.{checked_true}
use Rattle.pk_report_laws.proofs.laws.checked_cells_are_true.Goals as goal

pub returns : goal.returns
returns c = checked_true c.checked_cells_hold_runs.ensures
