use Rattle.std.proofs.Common.{◌≡◌, ◌≤◌, ◌-◌, [], length}
use Rattle.pk_linear.specs.Progress.{IsKnown}
use Rattle.pk_linear.proofs.orders.linear.Given as goal

abbrev pub invariant-loop-item : goal.invariant-loop-item
invariant-loop-item l = IsKnown l.plan l.progress l.progress.ready.keys (λ e. l.item ≤ e) × (l.progress.places.items ≡ [])

abbrev pub invariant-loop-element : goal.invariant-loop-element
invariant-loop-element l = IsKnown l.plan l.progress l.progress.ready.keys (λ e. ⊥)

abbrev pub decreases-loop-element : goal.decreases-loop-element
decreases-loop-element l = l.plan.elements - length l.progress.places.items
