use Rattle.std.proofs.Common.{arith, ◌∙◌, ap, sym, bit_and, of_z, FitsSigned, Ok}
use Rattle.std.specs.Int.{w128}
use Rattle.std.proofs.lemmas.Int.{to_z-of_z}
use Rattle.std.proofs.lemmas.Nat.{and_mod, and_le_l}
use Rattle.pk_ctypes.specs.declared.faults.Fault.TheVariants.{Overflow}
use Rattle.pk_ctypes.specs.Operators.{bitwise}
use Rattle.pk_ctypes.proofs.Bits.{bitwise_back, bitwise_in, of_small}
use Rattle.pk_ctypes.proofs.Values.{fitted_inside}
use Rattle.pk_ctypes.proofs.operators.and.Goals as goal

pub returns : goal.returns
returns c =
    let fits : FitsSigned w128 c.convert.result = record { sfits = c.convert.type_inv } in
    ap Ok (to_z-of_z w128 c.convert.result fits ∙ c.convert.ensures ∙ bitwise_back bit_and and_mod c.args.t c.args.a c.args.b c.ranges.a c.ranges.b (omega (arith, and_le_l (of_z w128 c.args.a) (of_z w128 c.args.b), of_small c.args.a c.ranges.a)))
    ∙ sym (fitted_inside Overflow c.args.t (bitwise bit_and c.args.t c.args.a c.args.b) (bitwise_in bit_and c.args.t c.args.a c.args.b))
