-- What an operator gives lies in its type.
use Rattle.std.specs.Prelude.{◌≡◌, ℤ, pos, int_lt, int_le, not, Bool, Ok}
use Rattle.std.specs.Ordering.{int_eq}
use Rattle.std.proofs.Common.{subst}
use Rattle.pk_ctypes.specs.declared.types.IntType.{IntType}
use Rattle.pk_ctypes.specs.declared.types.IntType.TheVariants.{Int}
use Rattle.pk_ctypes.specs.declared.types.Op.{Op}
use Rattle.pk_ctypes.specs.declared.types.Op.TheVariants.{Add, Sub, Mul, Div, Rem, Shl, Shr, And, Or, Xor, Lt, Gt, Le, Ge, Eq, Ne, Neg, BitNot, Not}
use Rattle.pk_ctypes.specs.declared.faults.Fault.TheVariants.{Overflow, Shift}
use Rattle.pk_ctypes.specs.Types.{InType}
use Rattle.pk_ctypes.specs.Operators.{truth, exact, fitted, value_of, result_type}
use Rattle.pk_ctypes.proofs.Values.{fitted_if_in, fitted_inside, truth_in}

compared : (t : IntType) (b : Bool) (z : ℤ) → fitted Overflow t (truth b) ≡ Ok z → InType Int z
compared t b z e =
    let same : truth b ≡ z = cc (fitted_inside Overflow t (truth b) (truth_in t b)) in
    subst (InType Int) same (truth_in Int b)

pub value_in : (op : Op) (t : IntType) (a b z : ℤ) → value_of op t a b ≡ Ok z → InType (result_type op t) z
value_in Add t a b z e = fitted_if_in Overflow t (exact Add t a b) z e
value_in Sub t a b z e = fitted_if_in Overflow t (exact Sub t a b) z e
value_in Mul t a b z e = fitted_if_in Overflow t (exact Mul t a b) z e
value_in Div t a b z e = fitted_if_in Overflow t (exact Div t a b) z e
value_in Rem t a b z e = fitted_if_in Overflow t (exact Rem t a b) z e
value_in Shl t a b z e = fitted_if_in Shift t (exact Shl t a b) z e
value_in Shr t a b z e = fitted_if_in Shift t (exact Shr t a b) z e
value_in And t a b z e = fitted_if_in Overflow t (exact And t a b) z e
value_in Or t a b z e = fitted_if_in Overflow t (exact Or t a b) z e
value_in Xor t a b z e = fitted_if_in Overflow t (exact Xor t a b) z e
value_in Lt t a b z e = compared t (int_lt a b) z e
value_in Gt t a b z e = compared t (int_lt b a) z e
value_in Le t a b z e = compared t (int_le a b) z e
value_in Ge t a b z e = compared t (int_le b a) z e
value_in Eq t a b z e = compared t (int_eq a b) z e
value_in Ne t a b z e = compared t (not (int_eq a b)) z e
value_in Neg t a b z e = fitted_if_in Overflow t (exact Neg t a b) z e
value_in BitNot t a b z e = fitted_if_in Overflow t (exact BitNot t a b) z e
value_in Not t a b z e = compared t (int_eq a (pos 0)) z e
