use Rattle.pk_access_texts.proofs.Texts.{operators_are_apart}
use Rattle.pk_access_texts.proofs.laws.operators_are_apart.Goals as goal

pub returns : goal.returns
returns c = operators_are_apart
