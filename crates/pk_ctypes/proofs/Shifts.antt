-- Shifts: what the code's 128 bits hold is the number itself, and a shift to the right stays in its type.
use Rattle.std.specs.Prelude.{◌≡◌, ℕ, ◌*◌, ◌%◌, ◌^◌, ◌<◌, ◌≤◌, ◌-◌, Bool, true, false, ◌&&◌, ℤ, pos, negsuc, ◌*ℤ◌, ◌≤ℤ◌, ◌<ℤ◌, int_lt, unsigned_abs, FitsSigned, Ok}
use Rattle.std.specs.Int.{w128, int_shr}
use Rattle.std.specs.Int.Signed.{shr_z}
use Rattle.std.proofs.Common.{arith, ◌∙◌, ap, refl, sym, to_z, of_z}
use Rattle.std.proofs.lemmas.Int.{ints, to_z_pos, to_z-of_z, fits_signed_from_abs}
use Rattle.std.proofs.Math.Nat.{mul-le-mul, mod-eq_of_lt}
use Rattle.std.proofs.Math.Pow.{pow_mono}
use native.Mathlib.Nat.{div-le_self}
use Rattle.pk_ctypes.specs.declared.types.IntType.{IntType}
use Rattle.pk_ctypes.specs.declared.types.IntType.TheVariants.{Char, SChar, UChar, Short, UShort, Int, UInt, Long, ULong, LLong, ULLong}
use Rattle.pk_ctypes.specs.declared.types.Op.TheVariants.{Shl, Shr}
use Rattle.pk_ctypes.specs.declared.faults.Fault.TheVariants.{Shift}
use Rattle.pk_ctypes.specs.Types.{width_of, is_signed_of, InType}
use Rattle.pk_ctypes.specs.Laws.{IsCount}
use Rattle.pk_ctypes.specs.Operators.{is_count, is_below_zero, fitted, value_of}
use Rattle.pk_ctypes.proofs.Values.{fitted_inside}
use Rattle.pk_ctypes.proofs.Wrapped.{sized, zero_in}

pub width_most : (t : IntType) → width_of t ≤ 64
width_most Char = omega arith
width_most SChar = omega arith
width_most UChar = omega arith
width_most Short = omega arith
width_most UShort = omega arith
width_most Int = omega arith
width_most UInt = omega arith
width_most Long = omega arith
width_most ULong = omega arith
width_most LLong = omega arith
width_most ULLong = omega arith

pub count_is : (t : IntType) (b : ℤ) → is_count t b ≡ true → IsCount t b
count_is t b h = record { from = grind (arith, ints); below = grind (arith, ints) }

pub no_count : (t : IntType) (b : ℤ) → is_count t b ≡ false → IsCount t b → ⊥
no_count t b h k =
    let from = k.from in
    let below = k.below in
    grind (arith, ints)

pub no_count_test : (t : IntType) (b : ℤ) → (IsCount t b → ⊥) → is_count t b ≡ false
no_count_test t b h = by (is_count t b) refl
  where
    by : (test : Bool) → is_count t b ≡ test → test ≡ false
    by true e = absurd (h (count_is t b e))
    by false e = refl

pub not_below_zero : (t : IntType) (a : ℤ) → InType t a → is_below_zero t a ≡ false → pos 0 ≤ℤ a
not_below_zero t a h k = by (is_signed_of t) refl
  where
    by : (s : Bool) → is_signed_of t ≡ s → pos 0 ≤ℤ a
    by true e = let test : int_lt a (pos 0) ≡ false = ap (λ s. s && int_lt a (pos 0)) (sym e) ∙ k in grind (arith, ints)
    by false e = rw e at h.from

pub below_zero : (t : IntType) (a : ℤ) → is_below_zero t a ≡ true → (is_signed_of t ≡ true) × (a <ℤ pos 0)
below_zero t a k = by (is_signed_of t) refl
  where
    by : (s : Bool) → is_signed_of t ≡ s → (is_signed_of t ≡ true) × (a <ℤ pos 0)
    by true e = let test : int_lt a (pos 0) ≡ true = ap (λ s. s && int_lt a (pos 0)) (sym e) ∙ k in (e, grind (arith, ints))
    by false e = absurd (cc (ap (λ s. s && int_lt a (pos 0)) (sym e) ∙ k))

pub below_zero_test : (t : IntType) (a : ℤ) → is_signed_of t ≡ true → a <ℤ pos 0 → is_below_zero t a ≡ true
below_zero_test t a s h = let test : int_lt a (pos 0) ≡ true = grind (arith, ints) in rw (s, test) refl

-- a number shifted to the left, as a product
pub shifted_small : (m n : ℕ) → m < 2 ^ 64 → n < 64 → m * 2 ^ n < 2 ^ 127
shifted_small m n h k =
    let power : 2 ^ n ≤ 2 ^ 63 = pow_mono {i = n} {j = 63} (omega arith) in
    let most : m ≤ 2 ^ 64 - 1 = omega arith in
    let product : m * 2 ^ n ≤ (2 ^ 64 - 1) * 2 ^ 63 = mul-le-mul most power in
    omega arith

pub shifted_back : (m n : ℕ) → m < 2 ^ 64 → n < 64 → to_z w128 ((m * 2 ^ n) % 2 ^ 128) ≡ pos (m * 2 ^ n)
shifted_back m n h k =
    let small = shifted_small m n h k in
    ap (to_z w128) (mod-eq_of_lt (omega arith)) ∙ to_z_pos w128 (m * 2 ^ n) small

pub left_back : (t : IntType) (a b : ℤ) → InType t a → is_count t b ≡ true → is_below_zero t a ≡ false → to_z w128 ((of_z w128 a * 2 ^ of_z w128 b) % 2 ^ 128) ≡ a *ℤ pos (2 ^ unsigned_abs b)
left_back t (pos m) (pos n) h k l =
    let size = sized t (pos m) h in
    let count = count_is t (pos n) k in
    let most = width_most t in
    shifted_back m n (omega (arith, ints, size.1)) (omega (arith, ints, count.below))
left_back t (negsuc m) b h k l = let from = not_below_zero t (negsuc m) h l in absurd (omega (arith, ints))
left_back t (pos m) (negsuc n) h k l = let count = count_is t (negsuc n) k in absurd (omega (arith, ints, count.from))

pub left_value : (t : IntType) (a b : ℤ) → is_count t b ≡ true → is_below_zero t a ≡ false → value_of Shl t a b ≡ fitted Shift t (a *ℤ pos (2 ^ unsigned_abs b))
left_value t a b k l = rw (k, l) refl

-- a number shifted to the right lies between it and 0 or -1
pub right_in : (t : IntType) (a : ℤ) (n : ℕ) → InType t a → InType t (int_shr a n)
right_in t (pos a) n h =
    let zero = zero_in t in
    let small = div-le_self a (2 ^ n) in
    record { from = omega (arith, ints, zero.0); to = omega (arith, ints, h.to) }
right_in t (negsuc a) n h =
    let zero = zero_in t in
    let small = div-le_self a (2 ^ n) in
    record { from = omega (arith, ints, h.from); to = omega (arith, ints, zero.1) }

-- what the code's 128 bits hold after a shift to the right
pub right_back : (t : IntType) (a b : ℤ) → FitsSigned w128 a → InType t a → is_count t b ≡ true → Ok (to_z w128 (of_z w128 (shr_z (to_z w128 (of_z w128 a)) (2 ^ of_z w128 b)))) ≡ value_of Shr t a b
right_back t a (pos n) f h k =
    let inside = right_in t a n h in
    let size = sized t (int_shr a n) inside in
    let fits = fits_signed_from_abs w128 (int_shr a n) (omega (arith, ints, size.0, size.1)) in
    ap Ok (ap (λ x. to_z w128 (of_z w128 (shr_z x (2 ^ n)))) (to_z-of_z w128 a f) ∙ to_z-of_z w128 (int_shr a n) fits)
    ∙ sym (rw k (fitted_inside Shift t (int_shr a n) inside))
right_back t a (negsuc n) f h k = let count = count_is t (negsuc n) k in absurd (omega (arith, ints, count.from))
