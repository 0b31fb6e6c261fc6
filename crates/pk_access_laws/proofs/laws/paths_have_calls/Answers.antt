use Rattle.pk_access_laws.proofs.Paths.{paths_have_calls}
use Rattle.pk_access_laws.proofs.laws.paths_have_calls.Goals as goal

pub returns : goal.returns
returns c = paths_have_calls
