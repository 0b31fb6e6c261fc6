use Rattle.std.specs.Prelude.{◌≡◌, ◌<◌, length}
use Rattle.std.proofs.Common.{arith, sym}
use Rattle.pk_octagons.specs.Packs.{chosen_at}
use Rattle.pk_octagons.proofs.Places.{found_at, found_none}
use Rattle.pk_octagons.proofs.packs.Pack.place.Goals as goal

pub returns-then-variable-x-clause-value : goal.returns-then-variable-x-clause-value
returns-then-variable-x-clause-value c =
    let here : c.loop-k.k < length c.args.self.now = omega (arith, c.loop-k-test.true, c.len-k-end.ensures) in
    let same : chosen_at c.args.self.now c.loop-k.k ≡ c.args.x = omega (arith, c.variable.ensures, c.if-variable-x.true) in
    sym (found_at c.args.self.now c.args.x c.loop-k.k here same c.loop-k.invariant)

pub returns-clause-value : goal.returns-clause-value
returns-clause-value c =
    sym (found_none c.args.self.now c.args.x (λ j h. c.loop-k.invariant j (omega (arith, h, c.loop-k-test.false, c.len-k-end.ensures))))
