use Rattle.std.proofs.Common.{◌≡◌, map, take}
use Rattle.pk_graph.specs.AccessViews.{access_views}
use Rattle.pk_pieces.specs.Joined.{verdict_by}
use Rattle.pk_pieces.proofs.pieces.verdicts_on.Given as goal

abbrev pub invariant-loop-k : goal.invariant-loop-k
invariant-loop-k l = l.list.items ≡ map (verdict_by l.state) (access_views (take l.k l.accesses))
