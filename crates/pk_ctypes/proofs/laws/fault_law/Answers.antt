use Rattle.pk_ctypes.proofs.Faulting.{faults, told}
use Rattle.pk_ctypes.proofs.laws.fault_law.Goals as goal

pub returns : goal.returns
returns c = λ op t a b f h k. (told op t a b f h k, faults op t a b f)
