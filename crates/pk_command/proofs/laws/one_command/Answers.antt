use Rattle.pk_command.proofs.Asking.{one_asked}
use Rattle.pk_command.proofs.laws.one_command.Goals as goal

pub returns : goal.returns
returns c = one_asked
