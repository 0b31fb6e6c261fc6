-- What takes a number into a type fits 128 bits: it is a multiple of the type's size.
use Rattle.std.specs.Prelude.{◌≡◌, ◌-◌, ◌^◌, ℤ, negsuc, ◌+ℤ◌, ◌-ℤ◌, ◌≤ℤ◌, FitsSigned, ◌<ℤ◌, int_le, Bool, true, false, Option, Some, None, IfSome, if◌then◌else◌}
use Rattle.std.specs.Int.{w128}
use Rattle.std.proofs.Common.{arith, refl}
use Rattle.std.proofs.lemmas.Int.{ints}
use Rattle.pk_ctypes.specs.declared.types.IntType.{IntType}
use Rattle.pk_ctypes.specs.declared.types.IntType.TheVariants.{Char, SChar, UChar, Short, UShort, Int, UInt, Long, ULong, LLong, ULLong}
use Rattle.pk_ctypes.specs.Types.{InType, IsEqualModulo, size_of, wrapped, low_of, high_of}
use Rattle.pk_interval.specs.Ranges.{Range, IsIn, range_from, whole}
use Rattle.pk_interval.specs.Fitting.{moved, moved_if, shifted}
use Rattle.pk_ctypes.proofs.Wrapped.{wrapped_in, wrapped_same, zero_in}

shift_by : (t : IntType) (z r : ℤ) → FitsSigned w128 z → negsuc (2 ^ 126 - 1) ≤ℤ z → InType t r → IsEqualModulo (size_of t) z r → FitsSigned w128 (r -ℤ z)
shift_by Char z r f h k e = omega (arith, ints, k.from, k.to, e.1)
shift_by SChar z r f h k e = omega (arith, ints, k.from, k.to, e.1)
shift_by UChar z r f h k e = omega (arith, ints, k.from, k.to, e.1)
shift_by Short z r f h k e = omega (arith, ints, k.from, k.to, e.1)
shift_by UShort z r f h k e = omega (arith, ints, k.from, k.to, e.1)
shift_by Int z r f h k e = omega (arith, ints, k.from, k.to, e.1)
shift_by UInt z r f h k e = omega (arith, ints, k.from, k.to, e.1)
shift_by Long z r f h k e = omega (arith, ints, k.from, k.to, e.1)
shift_by ULong z r f h k e = omega (arith, ints, k.from, k.to, e.1)
shift_by LLong z r f h k e = omega (arith, ints, k.from, k.to, e.1)
shift_by ULLong z r f h k e = omega (arith, ints, k.from, k.to, e.1)

pub shift_fits : (t : IntType) (z : ℤ) → FitsSigned w128 z → negsuc (2 ^ 126 - 1) ≤ℤ z → FitsSigned w128 (wrapped t z -ℤ z)
shift_fits t z f h = shift_by t z (wrapped t z) f h (wrapped_in t z) (wrapped_same t z)

pub moved_is : (t : IntType) (a : Range) (by lo hi by' : ℤ) → hi ≤ℤ high_of t → lo ≡ a.lo +ℤ by → hi ≡ a.hi +ℤ by → by' ≡ by → (let p : Range × Option ℤ = (record { lo = lo; hi = hi }, Some by') in p ≡ moved_if t a by)
moved_is t a by lo hi by' h e f g = go (int_le (a.hi +ℤ by) (high_of t)) refl
  where
    go : (b : Bool) → int_le (a.hi +ℤ by) (high_of t) ≡ b → (let p : Range × Option ℤ = (record { lo = lo; hi = hi }, Some by') in let q : Range × Option ℤ = (if b then (moved a by, Some by) else (whole t, None)) in p ≡ q)
    go true k = cc
    go false k = absurd (omega (arith, ints))

pub whole_is : (t : IntType) (a : Range) (by : ℤ) → high_of t <ℤ (a.hi +ℤ by) → (let p : Range × Option ℤ = (whole t, None) in p ≡ moved_if t a by)
whole_is t a by h = go (int_le (a.hi +ℤ by) (high_of t)) refl
  where
    go : (b : Bool) → int_le (a.hi +ℤ by) (high_of t) ≡ b → (let p : Range × Option ℤ = (whole t, None) in let q : Range × Option ℤ = (if b then (moved a by, Some by) else (whole t, None)) in p ≡ q)
    go true k = absurd (omega (arith, ints))
    go false k = refl

pub shifted_in : (t : IntType) (r : Range) → r.lo ≤ℤ r.hi → IsIn t (shifted t r).0
shifted_in t r h = by (int_le (r.hi +ℤ (wrapped t r.lo -ℤ r.lo)) (high_of t)) refl
  where
    by : (b : Bool) → int_le (r.hi +ℤ (wrapped t r.lo -ℤ r.lo)) (high_of t) ≡ b → (let p : Range × Option ℤ = (if b then (moved r (wrapped t r.lo -ℤ r.lo), Some (wrapped t r.lo -ℤ r.lo)) else (whole t, None)) in IsIn t p.0)
    by true e = let first = wrapped_in t r.lo in record {
      from = record { from = omega (arith, ints, first.from); to = omega (arith, ints, h) };
      to = record { from = omega (arith, ints, first.from, h); to = omega (arith, ints) };
    }
    by false e = let z = zero_in t in record {
      from = record { from = omega (arith, ints); to = omega (arith, ints, z.0, z.1) };
      to = record { from = omega (arith, ints, z.0, z.1); to = omega (arith, ints) };
    }

pub from_in : (t : IntType) (lo hi : ℤ) → low_of t ≤ℤ lo → hi ≤ℤ high_of t → IfSome (range_from lo hi) (IsIn t)
from_in t lo hi h k = by (int_le lo hi) refl
  where
    by : (b : Bool) → int_le lo hi ≡ b → IfSome (if b then Some (record { lo = lo; hi = hi }) else None) (IsIn t)
    by true e = record { from = record { from = h; to = omega (arith, ints, k) }; to = record { from = omega (arith, ints, h); to = k } }
    by false e = tt
