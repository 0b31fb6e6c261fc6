use Rattle.std.proofs.Common.{◌≡◌, ℕ, length, drop, Contains}
use Rattle.pk_linear.specs.Progress.{IsKnown}
use Rattle.pk_linear.proofs.KnownLemmas.{IsAwaited}
use Rattle.pk_linear.proofs.progress.Progress.place.Given as goal

abbrev pub invariant-loop-item : goal.invariant-loop-item
invariant-loop-item l =
    IsKnown l.plan l.self l.self.ready.keys (Contains (drop l.item-index l.item-items))
    × ((i : ℕ) → Contains l.item-items i → IsAwaited l.plan l.self.places.items i)
    × (length l.self.places.items ≡ length l.initial.self.places.items)
