use Rattle.pk_ctypes.proofs.Wrapped.{conversion}
use Rattle.pk_ctypes.proofs.laws.conversion_law.Goals as goal

pub returns : goal.returns
returns c = conversion
