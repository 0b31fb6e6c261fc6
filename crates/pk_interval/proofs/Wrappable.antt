-- What an operator gives can be wrapped into a type: its least number is -2^126 or more.
use Rattle.std.specs.Prelude.{◌≡◌, suc, ◌-◌, ◌^◌, ◌==◌, ◌&&◌, nat_lt, Bool, true, false, if◌then◌else◌, ℤ, pos, negsuc, ◌-ℤ◌, ◌*ℤ◌, ◌≤ℤ◌, neg_ℤ, int_div, int_le, unsigned_abs, Option, Some, None}
use Rattle.std.specs.Int.{int_min, int_max}
use Rattle.std.proofs.Common.{arith, refl}
use Rattle.std.proofs.lemmas.Int.{ints, clamps}
use Rattle.std.proofs.Math.Nat.{div-le_self}
use Rattle.pk_ctypes.specs.declared.types.IntType.{IntType}
use Rattle.pk_ctypes.specs.declared.types.Op.{Op}
use Rattle.pk_ctypes.specs.declared.types.Op.TheVariants.{Add, Sub, Mul, Div, Rem, Shl, Shr, And, Or, Xor, Lt, Gt, Le, Ge, Eq, Ne, Neg, BitNot, Not}
use Rattle.pk_ctypes.specs.Types.{is_signed_of, low_of, high_of, InType}
use Rattle.pk_ctypes.proofs.Wrapped.{sized, zero_in}
use Rattle.pk_interval.specs.Ranges.{Range, IsIn, single, whole}
use Rattle.pk_interval.specs.Operators.{within_if, hull_of, product_of, hull_if, corner_quotients, above_zero, below_zero, both_parts, greatest_of, rests_within, range_rest, counts_of, shiftable, shifted_left, shifted_right, left_by, right_by, is_natural, range_and, range_or, digits_of, complement_of, truths, is_below, is_at_most, is_one, are_apart, range_of, HasRightIn, CanWrap}
use Rattle.pk_interval.proofs.Numbers.{product_from}
use Rattle.pk_interval.proofs.Sound.{found_low}

-- z is -2^126 or more
abbrev Fits : ℤ → Type 0
Fits z = negsuc (2 ^ 126 - 1) ≤ℤ z

hull_fits : (p q r s : ℤ) → Fits p → Fits q → Fits r → Fits s → Fits (hull_of p q r s).lo
hull_fits p q r s e f g h = omega (arith, ints, clamps)

-- ---- products
abbrev FitsIf : Option ℤ → Type 0
FitsIf None = Unit {0}
FitsIf (Some z) = Fits z

product_fits : (t : IntType) (x y : ℤ) → InType t x → InType t y → FitsIf (product_of x y)
product_fits t x y h k = by (nat_lt (unsigned_abs (x *ℤ y)) (2 ^ 127))
  where
    by : (b : Bool) → FitsIf (if b then Some (x *ℤ y) else None)
    by true = product_from t x y h k
    by false = tt

hull_if_fits : (o1 o2 o3 o4 : Option ℤ) → FitsIf o1 → FitsIf o2 → FitsIf o3 → FitsIf o4 → CanWrap (hull_if o1 o2 o3 o4)
hull_if_fits (Some p) (Some q) (Some r) (Some s) e f g h = hull_fits p q r s e f g h
hull_if_fits (Some p) (Some q) (Some r) None e f g h = tt
hull_if_fits (Some p) (Some q) None o4 e f g h = tt
hull_if_fits (Some p) None o3 o4 e f g h = tt
hull_if_fits None o2 o3 o4 e f g h = tt

-- ---- quotients and rests
quotient_fits : (t : IntType) (x y : ℤ) → InType t x → Fits (int_div x y)
quotient_fits t (pos a) (pos b) h = omega (arith, ints)
quotient_fits t (pos a) (negsuc b) h = let size = sized t (pos a) h in omega (arith, ints, size.1, div-le_self a (suc b))
quotient_fits t (negsuc a) (pos b) h = let size = sized t (negsuc a) h in omega (arith, ints, size.0, div-le_self (suc a) b)
quotient_fits t (negsuc a) (negsuc b) h = omega (arith, ints)

corners_fit : (t : IntType) (a d : Range) → IsIn t a → Fits (corner_quotients a d).lo
corners_fit t a d i =
    hull_fits (int_div a.lo d.lo) (int_div a.lo d.hi) (int_div a.hi d.lo) (int_div a.hi d.hi) (quotient_fits t a.lo d.lo i.from) (quotient_fits t a.lo d.hi i.from) (quotient_fits t a.hi d.lo i.to) (quotient_fits t a.hi d.hi i.to)

parts_fit : (t : IntType) (a : Range) (o o' : Option Range) → IsIn t a → CanWrap (within_if (both_parts a o o'))
parts_fit t a None None i = tt
parts_fit t a (Some d) None i = corners_fit t a d i
parts_fit t a None (Some e) i = corners_fit t a e i
parts_fit t a (Some d) (Some e) i = omega (arith, ints, clamps, corners_fit t a d i, corners_fit t a e i)

rests_fit : (t : IntType) (a : Range) (m : ℤ) → IsIn t a → Fits (rests_within a m).lo
rests_fit t a m i = by (int_le (pos 0) a.lo)
  where
    by : (b : Bool) → Fits (if b then pos 0 else int_max a.lo (neg_ℤ m))
    by true = omega (arith, ints)
    by false = let size = sized t a.lo i.from in omega (arith, ints, clamps, size.0)

rest_fits : (t : IntType) (a b : Range) → IsIn t a → CanWrap (within_if (range_rest a b))
rest_fits t a b i = by (greatest_of b == 0)
  where
    by : (z : Bool) → CanWrap (within_if (if z then None else Some (rests_within a (pos (greatest_of b) -ℤ pos 1))))
    by true = tt
    by false = rests_fit t a (pos (greatest_of b) -ℤ pos 1) i

-- ---- shifts
left_fits : (o o' : Option Range) → ((d : Range) → o ≡ Some d → pos 0 ≤ℤ d.lo) → CanWrap (within_if (left_by o o'))
left_fits None o' f = tt
left_fits (Some a) None f = tt
left_fits (Some a) (Some c) f = by a.lo (f a refl)
  where
    by : (x : ℤ) → pos 0 ≤ℤ x → Fits (shifted_left x c.lo)
    by (pos n) h = omega (arith, ints)
    by (negsuc n) h = absurd (omega (arith, ints))

right_number : (t : IntType) (x c : ℤ) → InType t x → Fits (shifted_right x c)
right_number t (pos a) c h = omega (arith, ints)
right_number t (negsuc a) c h = let size = sized t (negsuc a) h in omega (arith, ints, size.0, div-le_self a (2 ^ unsigned_abs c))

right_fits : (t : IntType) (a : Range) (o : Option Range) → IsIn t a → CanWrap (within_if (right_by a o))
right_fits t a None i = tt
right_fits t a (Some c) i =
    hull_fits (shifted_right a.lo c.lo) (shifted_right a.lo c.hi) (shifted_right a.hi c.lo) (shifted_right a.hi c.hi) (right_number t a.lo c.lo i.from) (right_number t a.lo c.hi i.from) (right_number t a.hi c.lo i.to) (right_number t a.hi c.hi i.to)

-- ---- bits and comparisons
whole_fits : (t : IntType) → Fits (low_of t)
whole_fits t = let zero = zero_in t in let size = sized t (low_of t) (record { from = omega (arith, ints); to = omega (arith, ints, zero.0, zero.1) }) in omega (arith, ints, size.0)

and_fits : (t : IntType) (a b : Range) → Fits (range_and t a b).lo
and_fits t a b = by (is_natural a) (is_natural b)
  where
    by : (m n : Bool) → Fits (if m then record { lo = pos 0; hi = if n then int_min a.hi b.hi else a.hi } else (if n then record { lo = pos 0; hi = b.hi } else whole t)).lo
    by true n = omega (arith, ints)
    by false true = omega (arith, ints)
    by false false = whole_fits t

or_fits : (t : IntType) (a b : Range) → Fits (range_or t a b).lo
or_fits t a b = by (is_natural a) (is_natural b)
  where
    by : (m n : Bool) → Fits (if m && n then record { lo = pos 0; hi = pos (2 ^ digits_of 64 (unsigned_abs (int_max a.hi b.hi)) - 1) } else whole t).lo
    by true true = omega (arith, ints)
    by true false = whole_fits t
    by false n = whole_fits t

complement_fits : (t : IntType) (x : ℤ) → InType t x → Fits (complement_of t x)
complement_fits t x h = by (is_signed_of t)
  where
    by : (s : Bool) → Fits (if s then negsuc 0 -ℤ x else high_of t -ℤ x)
    by true = let size = sized t x h in omega (arith, ints, size.1)
    by false = omega (arith, ints, h.to)

truths_fit : (sure never : Bool) → Fits (truths sure never).lo
truths_fit true n = omega (arith, ints)
truths_fit false true = omega (arith, ints)
truths_fit false false = omega (arith, ints)

-- ---- each operator
pub can_wrap : (op : Op) (t : IntType) (a b : Range) → IsIn t a → HasRightIn op t b → CanWrap (range_of op t a b)
can_wrap Add t a b i j = let left = sized t a.lo i.from in let right = sized t b.lo j.from in omega (arith, ints, left.0, right.0)
can_wrap Sub t a b i j = let left = sized t a.lo i.from in let right = sized t b.hi j.to in omega (arith, ints, left.0, right.1)
can_wrap Mul t a b i j =
    hull_if_fits (product_of a.lo b.lo) (product_of a.lo b.hi) (product_of a.hi b.lo) (product_of a.hi b.hi) (product_fits t a.lo b.lo i.from j.from) (product_fits t a.lo b.hi i.from j.to) (product_fits t a.hi b.lo i.to j.from) (product_fits t a.hi b.hi i.to j.to)
can_wrap Div t a b i j = parts_fit t a (above_zero b) (below_zero b) i
can_wrap Rem t a b i j = rest_fits t a b i
can_wrap Shl t a b i j =
    left_fits (shiftable a) (counts_of t b) (λ d e. let low = found_low (int_max a.lo (pos 0)) a.hi d e in omega (arith, ints, clamps, low))
can_wrap Shr t a b i j = right_fits t a (counts_of t b) i
can_wrap And t a b i j = and_fits t a b
can_wrap Or t a b i j = or_fits t a b
can_wrap Xor t a b i j = or_fits t a b
can_wrap Lt t a b i j = truths_fit (is_below a b) (is_at_most b a)
can_wrap Gt t a b i j = truths_fit (is_below b a) (is_at_most a b)
can_wrap Le t a b i j = truths_fit (is_at_most a b) (is_below b a)
can_wrap Ge t a b i j = truths_fit (is_at_most b a) (is_below a b)
can_wrap Eq t a b i j = truths_fit (is_one a b) (are_apart a b)
can_wrap Ne t a b i j = truths_fit (are_apart a b) (is_one a b)
can_wrap Neg t a b i j = let size = sized t a.hi i.to in omega (arith, ints, size.1)
can_wrap BitNot t a b i j = complement_fits t a.hi i.to
can_wrap Not t a b i j = truths_fit (is_one a (single (pos 0))) (are_apart a (single (pos 0)))

-- an operand in the type is what is asked of a right one
pub right_in : (op : Op) (t : IntType) (b : Range) → IsIn t b → HasRightIn op t b
right_in Add t b h = h
right_in Sub t b h = h
right_in Mul t b h = h
right_in Div t b h = h
right_in Rem t b h = h
right_in Shl t b h = tt
right_in Shr t b h = tt
right_in And t b h = h
right_in Or t b h = h
right_in Xor t b h = h
right_in Lt t b h = h
right_in Gt t b h = h
right_in Le t b h = h
right_in Ge t b h = h
right_in Eq t b h = h
right_in Ne t b h = h
right_in Neg t b h = tt
right_in BitNot t b h = tt
right_in Not t b h = tt
