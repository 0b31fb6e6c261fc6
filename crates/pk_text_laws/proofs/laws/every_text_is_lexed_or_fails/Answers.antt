use Rattle.pk_text_laws.proofs.Total.Lexing.{every_text_is_lexed_or_fails}
use Rattle.pk_text_laws.proofs.laws.every_text_is_lexed_or_fails.Goals as goal

pub returns : goal.returns
returns c = every_text_is_lexed_or_fails
