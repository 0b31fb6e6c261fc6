use Rattle.pk_access_texts.proofs.Texts.{accesses_of_texts_are_apart}
use Rattle.pk_access_texts.proofs.laws.accesses_are_apart.Goals as goal

pub returns : goal.returns
returns c = accesses_of_texts_are_apart
