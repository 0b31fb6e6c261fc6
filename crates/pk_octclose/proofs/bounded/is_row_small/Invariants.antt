use Rattle.std.specs.Prelude.{◌<◌, ◌^◌, ℕ}
use Rattle.pk_octmat.specs.Bounds.{IsNear}
use Rattle.pk_octmat.specs.Octagon.{entry}
use Rattle.pk_octclose.proofs.bounded.is_row_small.Given as goal

abbrev pub invariant-loop-j : goal.invariant-loop-j
invariant-loop-j l = (j : ℕ) → j < l.j → IsNear (2 ^ 58) (entry l.m l.i j)
