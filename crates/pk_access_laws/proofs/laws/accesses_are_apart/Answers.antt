use Rattle.pk_access_laws.proofs.Graphs.{accesses_are_apart}
use Rattle.pk_access_laws.proofs.laws.accesses_are_apart.Goals as goal

pub returns : goal.returns
returns c = accesses_are_apart
