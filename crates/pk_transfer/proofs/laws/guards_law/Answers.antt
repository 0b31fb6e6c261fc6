use Rattle.pk_transfer.proofs.Refining.{guards_keep}
use Rattle.pk_transfer.proofs.laws.guards_law.Goals as goal

pub returns : goal.returns
returns c = guards_keep
