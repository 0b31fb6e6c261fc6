use Rattle.std.proofs.Common.{◌≡◌, ◌<◌, ℕ, length, get_or}
use Rattle.pk_plan.specs.Plans.{place_of}
use Rattle.pk_linear.proofs.WaitLemmas.{AreLastsSoFar}
use Rattle.pk_linear.proofs.waits.last_places.Given as goal

abbrev pub invariant-loop-element : goal.invariant-loop-element
invariant-loop-element l = (length l.lasts.items ≡ l.element) × ((k : ℕ) → k < l.element → get_or l.lasts.items k 0 ≡ place_of l.plan k)

abbrev pub invariant-loop-component : goal.invariant-loop-component
invariant-loop-component l = AreLastsSoFar l.plan l.lasts.items l.component-index
