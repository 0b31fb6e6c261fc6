use Rattle.std.proofs.Common.{◌≡◌, map, take, slice_get}
use Rattle.std.specs.Arc.{arc_value}
use Rattle.std.specs.List.{filter_map}
use Rattle.pk_iterate.proofs.front.share.Given as goal

-- the cells of the elements so far
abbrev pub invariant-loop-u : goal.invariant-loop-u
invariant-loop-u g l = map arc_value l.out.items ≡ filter_map (slice_get (map arc_value l.cells)) (take l.u-index l.elements)
