use Rattle.pk_access_texts.proofs.Texts.{calls_are_apart}
use Rattle.pk_access_texts.proofs.laws.calls_are_apart.Goals as goal

pub returns : goal.returns
returns c = calls_are_apart
