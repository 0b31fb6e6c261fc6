use Rattle.pk_core.proofs.Nested_meets.{nested_meets}
use Rattle.pk_core.proofs.laws.nested_meets_all.Goals as goal

pub returns : goal.returns
returns c = nested_meets
