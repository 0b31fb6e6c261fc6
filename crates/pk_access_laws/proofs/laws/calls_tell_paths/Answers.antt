use Rattle.pk_access_laws.proofs.Paths.{calls_tell_paths}
use Rattle.pk_access_laws.proofs.laws.calls_tell_paths.Goals as goal

pub returns : goal.returns
returns c = calls_tell_paths
