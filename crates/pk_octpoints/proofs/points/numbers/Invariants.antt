use Rattle.std.specs.Prelude.{◌≡◌, map}
use Rattle.std.proofs.Common.{take}
use Rattle.pk_octpoints.specs.Points.{number_or_zero}
use Rattle.pk_octpoints.proofs.points.numbers.Given as goal

abbrev pub invariant-loop-k : goal.invariant-loop-k
invariant-loop-k l = l.all.items ≡ map number_or_zero (take l.k l.part)
