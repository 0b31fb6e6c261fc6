-- The clause of the map, at a key of each spelling: functions that agree there are equal.
use mathlib.Core.Path.{fun_ext}
use Rattle.pk_type_jump.proofs.labels.Labels.put.Goals as goal

pub returns-clause-named : goal.returns-clause-named
returns-clause-named c = fun_ext (λ q. c.in_ok-old.ensures.updates.0 (record { ref_ptr = (0, 0); now = q }))
