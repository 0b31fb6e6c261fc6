use Rattle.pk_constructs.proofs.DeterminedLemmas.{one_first, first_is_not_supported}
use Rattle.pk_constructs.proofs.laws.first_is_determined.Goals as goal

pub returns : goal.returns
returns c = record { one = one_first; none = first_is_not_supported }
