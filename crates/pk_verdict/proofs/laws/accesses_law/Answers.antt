use Rattle.pk_verdict.proofs.Accessing.{accesses_over}
use Rattle.pk_verdict.proofs.laws.accesses_law.Goals as goal

pub returns : goal.returns
returns c = accesses_over
