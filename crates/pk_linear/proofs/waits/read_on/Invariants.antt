use Rattle.std.proofs.Common.{◌≤◌, ◌<◌, ◌-◌, ℕ, length, get_or}
use Rattle.pk_plan.specs.Plans.{place_of}
use Rattle.pk_linear.specs.Waits.{IsPlaced}
use Rattle.pk_linear.proofs.waits.read_on.Given as goal

abbrev pub invariant-loop-next : goal.invariant-loop-next
invariant-loop-next l =
    (l.read ≤ l.next)
    × ((k : ℕ) → l.read ≤ k → k < l.next → k < length l.inputs → place_of l.plan (get_or l.inputs k 0) < l.first → IsPlaced l.placed (get_or l.inputs k 0))

abbrev pub decreases-loop-next : goal.decreases-loop-next
decreases-loop-next l = length l.initial.inputs - l.next
