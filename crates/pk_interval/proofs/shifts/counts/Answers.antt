use Rattle.std.proofs.Common.{arith, to_z, of_z}
use Rattle.std.specs.Int.{w128}
use Rattle.std.proofs.lemmas.Int.{ints}
use Rattle.pk_interval.proofs.Numbers.{few_from}
use Rattle.pk_interval.proofs.shifts.counts.Goals as goal

pub returns-clause-few : goal.returns-clause-few
returns-clause-few c = rw c.between.ensures (few_from (to_z w128 (of_z w128 c.greater.result)) (to_z w128 (of_z w128 c.lesser.result)) (omega (arith, ints)) (omega (arith, ints)))
