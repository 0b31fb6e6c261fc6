use Rattle.std.proofs.Common.{◌≡◌, take}
use Rattle.pk_transfer.specs.Graphs.{own_types}
use Rattle.pk_transfer.proofs.frames.own_slots.Given as goal

abbrev pub invariant-loop-variable : goal.invariant-loop-variable
invariant-loop-variable l = l.types.items ≡ own_types (take l.variable-index l.variables)
