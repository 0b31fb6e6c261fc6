use Rattle.pk_transfer.proofs.Passing.{guards_pass}
use Rattle.pk_transfer.proofs.laws.passing_law.Goals as goal

pub returns : goal.returns
returns c = guards_pass
