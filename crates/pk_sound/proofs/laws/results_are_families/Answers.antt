use Rattle.pk_sound.proofs.Holding.{results_are_families}
use Rattle.pk_sound.proofs.laws.results_are_families.Goals as goal

pub returns : goal.returns
returns c = results_are_families
