use Rattle.pk_calls.proofs.CallPathLemmas.{paths_are_all}
use Rattle.pk_calls.proofs.laws.paths_are_all.Goals as goal

pub returns : goal.returns
returns c = paths_are_all
