use Rattle.std.proofs.Common.{◌≡◌, ◌<◌, ℕ, false, length, get_or, take}
use Rattle.pk_wpo.proofs.Walked.{heads_seen}
use Rattle.pk_wpo.proofs.listing.heads.Given as goal

-- the heads at the places so far
abbrev pub invariant-loop-place : goal.invariant-loop-place
invariant-loop-place l =
    record {
      long : length l.heads.items ≡ l.vertices;
      seen : (v : ℕ) → v < l.vertices → get_or l.heads.items v false ≡ heads_seen (take l.place-index l.place-items) v;
    }
