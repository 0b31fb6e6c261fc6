use Rattle.pk_transfer.proofs.Assigning.{assignments_keep}
use Rattle.pk_transfer.proofs.laws.assignments_law.Goals as goal

pub returns : goal.returns
returns c = assignments_keep
