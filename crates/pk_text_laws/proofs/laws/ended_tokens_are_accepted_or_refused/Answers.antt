use Rattle.pk_text_laws.proofs.Total.Parsing.{ended_are_accepted_or_refused}
use Rattle.pk_text_laws.proofs.laws.ended_tokens_are_accepted_or_refused.Goals as goal

pub returns : goal.returns
returns c = ended_are_accepted_or_refused
