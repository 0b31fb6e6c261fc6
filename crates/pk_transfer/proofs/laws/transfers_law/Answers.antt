use Rattle.pk_transfer.proofs.Transferring.{transfers_keep}
use Rattle.pk_transfer.proofs.laws.transfers_law.Goals as goal

pub returns : goal.returns
returns c = transfers_keep
