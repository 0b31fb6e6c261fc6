use Rattle.std.proofs.Common.{rules, FitsSigned, arith, ◌≤ℤ◌}
use Rattle.std.specs.Int.{w128}
use Rattle.std.proofs.lemmas.Int.{ints, to_z-of_z}
use Rattle.pk_transfer.proofs.Refining.{part_in}
use Rattle.pk_transfer.proofs.guards.narrowed.Goals as goal

pub returns-then-lo-hi-clause-inside : goal.returns-then-lo-hi-clause-inside
returns-then-lo-hi-clause-inside c =
    let low : FitsSigned w128 c.args.lo = search rules in
    let high : FitsSigned w128 c.args.hi = search rules in
    let test : c.args.lo ≤ℤ c.args.hi = omega (arith, ints, c.if-lo-hi.true) in
    rw (to_z-of_z w128 c.args.lo low, to_z-of_z w128 c.args.hi high)
    (record { inside = part_in c.args.t c.args.x.now.range c.args.lo c.args.hi c.requires.inside c.requires.from test c.requires.to; some = test; class = c.reduced_law.ensures })
