-- What the code's 128 bits hold is the number itself, where it fits.
use Rattle.std.specs.Prelude.{◌≡◌, suc, ◌≤◌, ℤ, pos, negsuc, ◌*ℤ◌, int_div, int_rem, unsigned_abs, FitsSigned}
use Rattle.std.specs.Int.{w128, Width}
use Rattle.std.proofs.Common.{arith, to_z, of_z}
use Rattle.std.proofs.lemmas.Int.{ints, to_z-of_z, quot_is, rem_is, fits_signed_from_abs}
use native.Mathlib.Nat.{div-le_self}
use Rattle.pk_ctypes.specs.declared.types.IntType.{IntType}
use Rattle.pk_ctypes.specs.Types.{InType}
use Rattle.pk_ctypes.proofs.Wrapped.{sized}

pub product_back : (w : Width) (a b : ℤ) → FitsSigned w a → FitsSigned w b → FitsSigned w (a *ℤ b) → to_z w (of_z w (to_z w (of_z w a) *ℤ to_z w (of_z w b))) ≡ a *ℤ b
product_back w a b f g h = simp to_z-of_z

pub quotient_size : (a b : ℤ) → unsigned_abs (int_div a b) ≤ unsigned_abs a
quotient_size (pos a) (pos b) = div-le_self a b
quotient_size (pos a) (negsuc b) = omega (arith, ints, div-le_self a (suc b))
quotient_size (negsuc a) (pos b) = omega (arith, ints, div-le_self (suc a) b)
quotient_size (negsuc a) (negsuc b) = div-le_self (suc a) (suc b)

pub quotient_back : (t : IntType) (a b : ℤ) → InType t a → InType t b → to_z w128 (of_z w128 (int_div (to_z w128 (of_z w128 a)) (to_z w128 (of_z w128 b)))) ≡ int_div a b
quotient_back t a b h k =
    let left = sized t a h in
    let right = sized t b k in
    quot_is w128 a b (omega (arith, ints)) (omega (arith, ints)) (fits_signed_from_abs w128 (int_div a b) (omega (arith, ints, quotient_size a b)))

pub rest_back : (t : IntType) (a b : ℤ) → InType t a → InType t b → to_z w128 (of_z w128 (int_rem (to_z w128 (of_z w128 a)) (to_z w128 (of_z w128 b)))) ≡ int_rem a b
rest_back t a b h k =
    let left = sized t a h in
    let right = sized t b k in
    rem_is w128 a b (omega (arith, ints)) (omega (arith, ints))
