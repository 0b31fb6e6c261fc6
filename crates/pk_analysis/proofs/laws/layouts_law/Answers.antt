use Rattle.pk_analysis.proofs.Layouting.{layouts_over}
use Rattle.pk_analysis.proofs.laws.layouts_law.Goals as goal

pub returns : goal.returns
returns c = layouts_over
