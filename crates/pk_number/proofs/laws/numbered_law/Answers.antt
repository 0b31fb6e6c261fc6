use Rattle.pk_number.proofs.NumberedLemmas.{numbering_holds}
use Rattle.pk_number.proofs.laws.numbered_law.Goals as goal

pub returns : goal.returns
returns c = numbering_holds
