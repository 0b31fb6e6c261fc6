use Rattle.pk_access_texts.proofs.Texts.{paths_of_texts_are_apart}
use Rattle.pk_access_texts.proofs.laws.paths_are_apart.Goals as goal

pub returns : goal.returns
returns c = paths_of_texts_are_apart
