use Rattle.std.proofs.Common.{arith, ◌∙◌, ap}
use Rattle.std.proofs.lemmas.Int.{ints}
use Rattle.pk_ctypes.specs.declared.faults.Fault.TheVariants.{Overflow}
use Rattle.pk_ctypes.specs.Operators.{fitted}
use Rattle.pk_ctypes.proofs.Wrapped.{sized}
use Rattle.pk_ctypes.proofs.operators.difference.Goals as goal

pub returns : goal.returns
returns c =
    let left = sized c.args.t c.args.a c.requires.left in
    let right = sized c.args.t c.args.b c.requires.right in
    c.fit.ensures ∙ ap (fitted Overflow c.args.t) (omega (arith, ints))
