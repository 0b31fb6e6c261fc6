use Rattle.std.proofs.Common.{◌<◌, ℕ}
use Rattle.pk_octops.specs.Tables.{IsBelow}
use Rattle.pk_octagons.specs.Octagons.{octagon_at}
use Rattle.pk_octagons.proofs.octagons.leq_all.Given as goal

-- so many pass
abbrev pub invariant-loop-p : goal.invariant-loop-p
invariant-loop-p l = (q : ℕ) → q < l.p → IsBelow (octagon_at l.a q) (octagon_at l.b q)
