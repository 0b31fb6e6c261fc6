use Rattle.pk_parse.proofs.LexedLemmas.{lexed_is_ended}
use Rattle.pk_parse.proofs.laws.tokens_are_ended.Goals as goal

pub returns : goal.returns
returns c = lexed_is_ended
