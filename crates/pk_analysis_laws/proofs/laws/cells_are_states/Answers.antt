use Rattle.pk_analysis_laws.proofs.Turns.Cells.{cells_are_states}
use Rattle.pk_analysis_laws.proofs.laws.cells_are_states.Goals as goal

pub returns : goal.returns
returns c = cells_are_states
