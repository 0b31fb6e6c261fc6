use Rattle.std.specs.Prelude.{◌≡◌, ◌*ℤ◌, false, FitsSigned, Ok}
use Rattle.std.proofs.Common.{◌∙◌, ap, sym, refl}
use Rattle.std.specs.Int.{w128}
use Rattle.std.proofs.lemmas.Int.{to_z-of_z, wrapping_mul_is}
use Rattle.pk_ctypes.specs.declared.faults.Fault.TheVariants.{Overflow}
use Rattle.pk_ctypes.specs.Types.{is_signed_of, wrapped}
use Rattle.pk_ctypes.specs.Operators.{fitted}
use Rattle.pk_ctypes.proofs.Wrapped.{signed_product_fits, wrapped_left}
use Rattle.pk_ctypes.proofs.Back.{product_back}
use Rattle.pk_ctypes.proofs.operators.product.Goals as goal

pub returns-then-is_signed : goal.returns-then-is_signed
returns-then-is_signed c =
    let fits = signed_product_fits c.args.t c.args.a c.args.b (sym c.is_signed.ensures ∙ c.if-is_signed.true) c.requires.left c.requires.right in
    c.fit.ensures ∙ ap (fitted Overflow c.args.t) (product_back w128 c.args.a c.args.b c.ranges.a c.ranges.b fits)

pub returns-else-is_signed : goal.returns-else-is_signed
returns-else-is_signed c =
    let unsigned : is_signed_of c.args.t ≡ false = sym c.is_signed.ensures ∙ c.if-is_signed.false in
    let fits : FitsSigned w128 c.convert.result = record { sfits = c.convert.type_inv } in
    ap Ok (to_z-of_z w128 c.convert.result fits ∙ c.convert.ensures ∙ ap (wrapped c.args.t) (wrapping_mul_is w128 c.args.a c.args.b c.ranges.a c.ranges.b) ∙ wrapped_left c.args.t (c.args.a *ℤ c.args.b))
    ∙ sym (rw unsigned refl)

pub overflow_mul-a : goal.overflow_mul-a
overflow_mul-a c =
    let left : FitsSigned w128 c.args.a = c.ranges.a in
    let right : FitsSigned w128 c.args.b = c.ranges.b in
    simp to_z-of_z (signed_product_fits c.args.t c.args.a c.args.b (sym c.is_signed.ensures ∙ c.if-is_signed.true) c.requires.left c.requires.right)
