use Rattle.std.proofs.Common.{◌≡◌, ℕ, ◌<◌, length, get_or}
use Rattle.pk_board.specs.Earliest.{earliest_of}
use Rattle.pk_board.proofs.earliest.Earliest.of.Given as goal

-- the places so far
abbrev pub invariant-loop-e : goal.invariant-loop-e
invariant-loop-e l = record {
  long : length l.places.items ≡ l.e;
  each : (k : ℕ) → k < l.e → get_or l.places.items k 0 ≡ earliest_of l.plan k;
}
