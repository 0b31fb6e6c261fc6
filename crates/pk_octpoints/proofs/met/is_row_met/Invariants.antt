use Rattle.std.specs.Prelude.{◌<◌, ◌-ℤ◌, ℕ, Some}
use Rattle.pk_octmat.specs.Bounds.{AtMost}
use Rattle.pk_octmat.specs.Octagon.{entry, side}
use Rattle.pk_octpoints.specs.Points.{numbers_of}
use Rattle.pk_octpoints.proofs.met.is_row_met.Given as goal

abbrev pub invariant-loop-j : goal.invariant-loop-j
invariant-loop-j l = (j : ℕ) → j < l.j → AtMost (Some (side (numbers_of l.numbers) j -ℤ side (numbers_of l.numbers) l.i)) (entry l.m l.i j)
