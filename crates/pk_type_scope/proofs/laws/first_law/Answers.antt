-- by induction on the failures
use Rattle.pk_type_scope.proofs.FirstLemmas.{first_is_answered}
use Rattle.pk_type_scope.proofs.laws.first_law.Goals as goal

pub returns : goal.returns
returns c = first_is_answered
