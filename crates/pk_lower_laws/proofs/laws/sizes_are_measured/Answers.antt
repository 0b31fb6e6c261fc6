use Rattle.pk_lower_laws.proofs.Parts.Measures.{sizes_are_measured}
use Rattle.pk_lower_laws.proofs.laws.sizes_are_measured.Goals as goal

pub returns : goal.returns
returns c = sizes_are_measured
