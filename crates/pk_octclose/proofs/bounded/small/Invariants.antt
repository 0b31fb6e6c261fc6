use Rattle.std.specs.Prelude.{◌<◌, ◌*◌, ◌^◌, ℕ}
use Rattle.pk_octmat.specs.Bounds.{IsNear}
use Rattle.pk_octmat.specs.Octagon.{entry}
use Rattle.pk_octclose.proofs.bounded.small.Given as goal

abbrev pub invariant-loop-i : goal.invariant-loop-i
invariant-loop-i l = (i : ℕ) → i < l.i → (j : ℕ) → j < 2 * l.m.vars → IsNear (2 ^ 58) (entry l.m i j)
