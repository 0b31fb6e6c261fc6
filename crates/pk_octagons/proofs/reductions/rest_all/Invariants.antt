use Rattle.std.proofs.Common.{◌<◌, ℕ}
use Rattle.pk_octagons.specs.Packs.{pack_at}
use Rattle.pk_octagons.specs.Octagons.{octagon_at}
use Rattle.pk_octagons.specs.Reduced.{IsResting}
use Rattle.pk_octagons.proofs.reductions.rest_all.Given as goal

-- so many rest
abbrev pub invariant-loop-p : goal.invariant-loop-p
invariant-loop-p l = (q : ℕ) → q < l.p → IsResting (pack_at l.packs q) l.values (octagon_at l.all q)
