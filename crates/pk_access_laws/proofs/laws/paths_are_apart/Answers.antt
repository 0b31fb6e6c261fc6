use Rattle.pk_access_laws.proofs.Paths.{paths_are_apart}
use Rattle.pk_access_laws.proofs.laws.paths_are_apart.Goals as goal

pub returns : goal.returns
returns c = paths_are_apart
