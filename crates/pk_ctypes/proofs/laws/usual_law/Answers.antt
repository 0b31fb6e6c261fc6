use Rattle.pk_ctypes.proofs.Common.{usual}
use Rattle.pk_ctypes.proofs.laws.usual_law.Goals as goal

pub returns : goal.returns
returns c = usual
