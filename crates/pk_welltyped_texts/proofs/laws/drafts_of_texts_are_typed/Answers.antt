use Rattle.pk_welltyped_texts.proofs.Texts.{drafts_of_texts_are_typed}
use Rattle.pk_welltyped_texts.proofs.laws.drafts_of_texts_are_typed.Goals as goal

pub returns : goal.returns
returns c = drafts_of_texts_are_typed
