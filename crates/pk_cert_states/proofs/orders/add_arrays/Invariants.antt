use Rattle.std.proofs.Common.{◌≡◌, ◌+◌, ◌++◌, take, length}
use Rattle.pk_cert_states.specs.Lines.{arrays_from}
use Rattle.pk_cert_states.specs.Parts.{kinds_in}
use Rattle.pk_cert_states.proofs.Ordering.{furthers}
use Rattle.pk_cert_states.proofs.orders.add_arrays.Given as goal

-- the slots of the arrays so far, and where the further ones of the next begin
abbrev pub invariant-loop-x : goal.invariant-loop-x
invariant-loop-x l =
    (l.slots.items ≡ l.initial.slots.items ++ arrays_from 0 (length l.variables) (take l.x (kinds_in l.variables)))
    × (l.further ≡ length l.variables + furthers (take l.x (kinds_in l.variables)))
