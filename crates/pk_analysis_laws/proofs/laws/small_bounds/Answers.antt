use Rattle.pk_analysis_laws.proofs.Turns.Ending.{small_bounds}
use Rattle.pk_analysis_laws.proofs.laws.small_bounds.Goals as goal

pub returns : goal.returns
returns c = small_bounds
