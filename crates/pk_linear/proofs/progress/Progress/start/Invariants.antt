use Rattle.std.proofs.Common.{◌≡◌, ◌<◌, ℕ, [], length, get_or}
use Rattle.pk_plan.specs.Plans.{place_of}
use Rattle.pk_plan.specs.Digraphs.{lists_of}
use Rattle.pk_linear.proofs.progress.Progress.start.Given as goal

abbrev pub invariant-loop-element : goal.invariant-loop-element
invariant-loop-element l =
    (length l.readings.items ≡ l.element)
    × ((k : ℕ) → k < l.element → get_or l.readings.items k (record { place = 0; read = 0 }) ≡ record { place = place_of l.plan k; read = 0 })
    × (length l.waiting.items ≡ l.element)
    × ((k : ℕ) → get_or (lists_of l.waiting.items) k [] ≡ [])
