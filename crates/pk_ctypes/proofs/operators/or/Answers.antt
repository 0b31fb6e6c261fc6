use Rattle.std.proofs.Common.{◌∙◌, ap, sym, bit_or, FitsSigned, Ok}
use Rattle.std.specs.Int.{w128}
use Rattle.std.proofs.lemmas.Int.{to_z-of_z}
use Rattle.std.proofs.lemmas.Nat.{or_mod, or_lt}
use Rattle.pk_ctypes.specs.declared.faults.Fault.TheVariants.{Overflow}
use Rattle.pk_ctypes.specs.Operators.{bitwise}
use Rattle.pk_ctypes.proofs.Bits.{bitwise_back, bitwise_in, of_small}
use Rattle.pk_ctypes.proofs.Values.{fitted_inside}
use Rattle.pk_ctypes.proofs.operators.or.Goals as goal

pub returns : goal.returns
returns c =
    let fits : FitsSigned w128 c.convert.result = record { sfits = c.convert.type_inv } in
    ap Ok (to_z-of_z w128 c.convert.result fits ∙ c.convert.ensures ∙ bitwise_back bit_or or_mod c.args.t c.args.a c.args.b c.ranges.a c.ranges.b (or_lt 128 _ _ (of_small c.args.a c.ranges.a) (of_small c.args.b c.ranges.b)))
    ∙ sym (fitted_inside Overflow c.args.t (bitwise bit_or c.args.t c.args.a c.args.b) (bitwise_in bit_or c.args.t c.args.a c.args.b))
