use Rattle.pk_type_laws.proofs.Answered.Answers.{check_gives_the_answer}
use Rattle.pk_type_laws.proofs.laws.check_gives_the_answer.Goals as goal

pub returns : goal.returns
returns c = check_gives_the_answer
