use Rattle.std.proofs.Common.{◌≡◌, ◌++◌, take}
use Rattle.pk_cert_states.specs.Lines.{scalars_from}
use Rattle.pk_cert_states.specs.Parts.{kinds_in}
use Rattle.pk_cert_states.proofs.orders.add_scalars.Given as goal

abbrev pub invariant-loop-x : goal.invariant-loop-x
invariant-loop-x l = l.slots.items ≡ l.initial.slots.items ++ scalars_from 0 (take l.x (kinds_in l.variables))
