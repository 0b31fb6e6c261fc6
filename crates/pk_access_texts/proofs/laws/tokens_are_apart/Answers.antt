use Rattle.pk_access_texts.proofs.Tokens.{tokens_are_apart}
use Rattle.pk_access_texts.proofs.laws.tokens_are_apart.Goals as goal

pub returns : goal.returns
returns c = tokens_are_apart
