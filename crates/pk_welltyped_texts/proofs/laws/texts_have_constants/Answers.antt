use Rattle.pk_welltyped_texts.proofs.Texts.{texts_have_constants}
use Rattle.pk_welltyped_texts.proofs.laws.texts_have_constants.Goals as goal

pub returns : goal.returns
returns c = texts_have_constants
