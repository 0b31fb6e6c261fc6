use Rattle.pk_lower_laws.proofs.Drafts.Drafts.{drafts_are_typed}
use Rattle.pk_lower_laws.proofs.laws.drafts_are_typed.Goals as goal

pub returns : goal.returns
returns c = drafts_are_typed
