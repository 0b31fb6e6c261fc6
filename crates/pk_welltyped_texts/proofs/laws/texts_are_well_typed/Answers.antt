use Rattle.pk_welltyped_texts.proofs.Texts.{texts_are_well_typed}
use Rattle.pk_welltyped_texts.proofs.laws.texts_are_well_typed.Goals as goal

pub returns : goal.returns
returns c = texts_are_well_typed
