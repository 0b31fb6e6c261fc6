use Rattle.pk_iterate.proofs.Once_each.{different_once}
use Rattle.pk_iterate.proofs.laws.different_stand_once.Goals as goal

pub returns : goal.returns
returns c = different_once
