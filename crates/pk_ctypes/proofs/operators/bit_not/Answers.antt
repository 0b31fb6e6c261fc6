use Rattle.std.proofs.Common.{◌∙◌, ap, sym, arith, FitsSigned, Ok}
use Rattle.std.specs.Int.{w128}
use Rattle.std.proofs.lemmas.Int.{ints, to_z-of_z}
use Rattle.pk_ctypes.specs.declared.faults.Fault.TheVariants.{Overflow}
use Rattle.pk_ctypes.specs.Types.{wrapped}
use Rattle.pk_ctypes.specs.Operators.{complement}
use Rattle.pk_ctypes.proofs.Bits.{complement_is, complement_in}
use Rattle.pk_ctypes.proofs.Values.{fitted_inside}
use Rattle.pk_ctypes.proofs.operators.bit_not.Goals as goal

pub returns : goal.returns
returns c =
    let fits : FitsSigned w128 c.convert.result = record { sfits = c.convert.type_inv } in
    ap Ok (to_z-of_z w128 c.convert.result fits ∙ c.convert.ensures ∙ ap (wrapped c.args.t) (omega (arith, ints)) ∙ complement_is c.args.t c.args.a)
    ∙ sym (fitted_inside Overflow c.args.t (complement c.args.t c.args.a) (complement_in c.args.t c.args.a))
