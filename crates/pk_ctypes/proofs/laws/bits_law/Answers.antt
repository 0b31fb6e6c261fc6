use Rattle.pk_ctypes.proofs.Bits.{made}
use Rattle.pk_ctypes.proofs.laws.bits_law.Goals as goal

pub returns : goal.returns
returns c = made
