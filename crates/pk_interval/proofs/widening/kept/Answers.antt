use Rattle.std.proofs.Common.{FitsSigned}
use Rattle.std.specs.Int.{w128}
use Rattle.std.proofs.lemmas.Int.{to_z-of_z}
use Rattle.pk_interval.proofs.Numbers.{found_from}
use Rattle.pk_interval.proofs.widening.kept.Goals as goal

pub returns-in-Some-clause-inside : goal.returns-in-Some-clause-inside
returns-in-Some-clause-inside c =
    let low : FitsSigned w128 c.args.lo = c.ranges.lo in
    let high : FitsSigned w128 c.args.hi = c.ranges.hi in
    found_from c.args.t c.args.lo c.args.hi c.in-Some.less (simp to_z-of_z at c.in-Some.ensures) c.requires.low c.requires.high
