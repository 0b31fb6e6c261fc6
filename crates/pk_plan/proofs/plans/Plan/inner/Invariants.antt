use Rattle.std.proofs.Common.{◌≡◌, take, count_by}
use Rattle.pk_plan.specs.Plans.{predecessors_of, is_inside}
use Rattle.pk_plan.proofs.plans.Plan.inner.Given as goal

-- the count so far
abbrev pub invariant-loop-a : goal.invariant-loop-a
invariant-loop-a l = l.count ≡ count_by (is_inside l.self l.component) (take l.a-index (predecessors_of l.self l.e))
