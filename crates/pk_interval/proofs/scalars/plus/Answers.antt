use Rattle.std.proofs.Common.{arith, refl, ◌+ℤ◌, FitsSigned}
use Rattle.std.specs.Int.{w128}
use Rattle.std.proofs.lemmas.Int.{ints}
use Rattle.pk_ctypes.proofs.Wrapped.{sized}
use Rattle.pk_interval.proofs.Numbers.{back_to}
use Rattle.pk_interval.proofs.scalars.plus.Goals as goal

pub returns : goal.returns
returns c =
    let x = sized c.args.t c.args.x c.requires.left in
    let y = sized c.args.t c.args.y c.requires.right in
    let fits : FitsSigned w128 (c.args.x +ℤ c.args.y) = omega (arith, ints, x.0, x.1, y.0, y.1) in
    rw (back_to c.args.x c.args.x c.ranges.x refl, back_to c.args.y c.args.y c.ranges.y refl) (back_to _ _ fits refl)
