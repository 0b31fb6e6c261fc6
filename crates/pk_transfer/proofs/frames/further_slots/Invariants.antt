use Rattle.std.proofs.Common.{◌≡◌, ◌++◌, length, take}
use Rattle.std.specs.List.{flat_map}
use Rattle.pk_transfer.specs.Slots.{further_types, further_from}
use Rattle.pk_transfer.specs.Graphs.{kinds_shown}
use Rattle.pk_transfer.proofs.frames.further_slots.Given as goal

abbrev pub invariant-loop-variable : goal.invariant-loop-variable
invariant-loop-variable l = record {
  types : l.types.items ≡ l.fn.types.items ++ flat_map further_types (kinds_shown (take l.variable-index l.variables));
  from : l.further.items ≡ further_from (length l.fn.types.items) (kinds_shown (take l.variable-index l.variables));
}
