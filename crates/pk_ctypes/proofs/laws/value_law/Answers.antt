use Rattle.pk_ctypes.proofs.Operator_values.{value_in}
use Rattle.pk_ctypes.proofs.laws.value_law.Goals as goal

pub returns : goal.returns
returns c = λ op t a b z h k e. value_in op t a b z e
