use Rattle.pk_type_laws.proofs.Answered.Answers.{texts_have_one_answer}
use Rattle.pk_type_laws.proofs.laws.texts_have_one_answer.Goals as goal

pub returns : goal.returns
returns c = texts_have_one_answer
