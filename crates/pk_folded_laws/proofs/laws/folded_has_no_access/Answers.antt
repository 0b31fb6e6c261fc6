use Rattle.pk_folded_laws.proofs.Folded.{folded_has_no_access}
use Rattle.pk_folded_laws.proofs.laws.folded_has_no_access.Goals as goal

pub returns : goal.returns
returns c = folded_has_no_access
