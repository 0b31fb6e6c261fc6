use Rattle.std.proofs.Common.{◌≡◌, ◌<◌, ℕ}
use Rattle.pk_octagons.specs.Octagons.{octagon_at}
use Rattle.pk_octagons.proofs.octagons.same_all.Given as goal

-- so many are the same
abbrev pub invariant-loop-p : goal.invariant-loop-p
invariant-loop-p l = (q : ℕ) → q < l.p → octagon_at l.a q ≡ octagon_at l.b q
