use Rattle.std.proofs.Common.{take}
use Rattle.pk_graph.specs.AccessViews.{access_views}
use Rattle.pk_lengths.specs.Lengths.{AreLengths}
use Rattle.pk_lengths.proofs.arrays.lengths.Given as goal

-- those of the accesses so far
abbrev pub invariant-loop-access : goal.invariant-loop-access
invariant-loop-access l = AreLengths (access_views (take l.access-index l.access-items)) l.lengths
