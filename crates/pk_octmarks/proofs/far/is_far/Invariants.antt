use Rattle.std.proofs.Common.{ℕ, ◌<◌, ◌+◌, ◌*◌}
use Rattle.pk_octmat.specs.Octagon.{entry}
use Rattle.pk_octclose.specs.Laws.{IsInside}
use Rattle.pk_octmarks.proofs.far.is_far.Given as goal

-- so many are
abbrev pub invariant-loop-j : goal.invariant-loop-j
invariant-loop-j l = (j : ℕ) → j < l.j → IsInside (entry l.m (2 * l.k) j) × IsInside (entry l.m (2 * l.k + 1) j)
