use Rattle.pk_places_laws.proofs.Graphs.{accesses_are_on_paths}
use Rattle.pk_places_laws.proofs.laws.accesses_are_on_paths.Goals as goal

pub returns : goal.returns
returns c = accesses_are_on_paths
