-- The clause of the set, at a name of each spelling: functions that agree there are equal.
use mathlib.Core.Path.{fun_ext}
use Rattle.pk_type.proofs.defined.Defined.add.Goals as goal

pub returns : goal.returns
returns c = fun_ext (λ q. c.in_ok-insert.ensures.updates.0 (record { ref_ptr = (0, 0); now = q }))
