use Rattle.std.proofs.Common.{◌≡◌, ◌<◌, ℕ, length, get_or}
use Rattle.pk_wpo.proofs.listing.places.Given as goal

-- the places so far
abbrev pub invariant-loop-place : goal.invariant-loop-place
invariant-loop-place l =
    record {
      long : length l.places.items ≡ length l.elements;
      placed : (k : ℕ) → k < l.place → get_or l.places.items (get_or l.elements k 0) 0 ≡ k;
    }
