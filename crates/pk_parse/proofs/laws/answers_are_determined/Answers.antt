use Rattle.pk_parse.proofs.AnswerLemmas.{one_tree, one_refusal, apart}
use Rattle.pk_parse.proofs.laws.answers_are_determined.Goals as goal

pub returns : goal.returns
returns c = record { trees = one_tree; refusal = one_refusal; apart = apart }
