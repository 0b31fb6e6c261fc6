use Rattle.std.specs.Prelude.{◌<◌, ◌*◌, ◌-ℤ◌, ℕ, Some}
use Rattle.pk_octmat.specs.Bounds.{AtMost}
use Rattle.pk_octmat.specs.Octagon.{entry, side}
use Rattle.pk_octpoints.specs.Points.{numbers_of}
use Rattle.pk_octpoints.proofs.met.inside.Given as goal

abbrev pub invariant-loop-i : goal.invariant-loop-i
invariant-loop-i l = (i : ℕ) → i < l.i → (j : ℕ) → j < 2 * l.m.vars → AtMost (Some (side (numbers_of l.numbers) j -ℤ side (numbers_of l.numbers) i)) (entry l.m i j)
