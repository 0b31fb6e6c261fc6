use Rattle.std.proofs.Common.{◌≡◌, filter, nat_lt, take}
use Rattle.pk_items.proofs.items.points_of.Given as goal

abbrev pub invariant-loop-e : goal.invariant-loop-e
invariant-loop-e l = l.points.items ≡ filter (λ u. nat_lt u l.plan.points) (take l.e-index l.e-items)
