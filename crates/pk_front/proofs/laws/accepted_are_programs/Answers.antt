use Rattle.pk_front.proofs.ProgramLemmas.{accepted}
use Rattle.pk_front.proofs.laws.accepted_are_programs.Goals as goal

pub returns : goal.returns
returns c = accepted
