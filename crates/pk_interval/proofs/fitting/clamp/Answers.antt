use Rattle.std.proofs.Common.{arith, to_z, of_z}
use Rattle.std.specs.Int.{w128}
use Rattle.std.proofs.lemmas.Int.{ints}
use Rattle.pk_interval.proofs.Moves.{from_in}
use Rattle.pk_interval.proofs.fitting.clamp.Goals as goal

pub returns-clause-inside : goal.returns-clause-inside
returns-clause-inside c = rw c.between.ensures (from_in c.args.t (to_z w128 (of_z w128 c.greater.result)) (to_z w128 (of_z w128 c.lesser.result)) (omega (arith, ints)) (omega (arith, ints)))
