use Rattle.pk_lower_laws.proofs.Drafts.Noted.{calls_are_noted}
use Rattle.pk_lower_laws.proofs.laws.well_typed_calls_are_noted.Goals as goal

pub returns : goal.returns
returns c = calls_are_noted
