use Rattle.std.proofs.Common.{◌≡◌, map, take, slice_get}
use Rattle.std.specs.Arc.{arc_value}
use Rattle.std.specs.List.{filter_map}
use Rattle.pk_core.specs.Entries.{standing_of, cells_of}
use Rattle.pk_core.proofs.entries.shared.Given as goal

-- the cells of the elements so far
abbrev pub invariant-loop-u : goal.invariant-loop-u
invariant-loop-u g l = map arc_value l.out.items ≡ filter_map (slice_get (cells_of (map standing_of l.entries))) (take l.u-index l.elements)
