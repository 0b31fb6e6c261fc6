-- What an operator stands for at members is held by what it gives on the ranges.
use Rattle.std.specs.Prelude.{◌≡◌, ℕ, zero, suc, ◌-◌, ◌<◌, ◌≤◌, ◌^◌, ◌&&◌, ◌||◌, ◌==◌, ◌⊎◌, Bool, true, false, not, if◌then◌else◌, nat_lt, max, ℤ, pos, negsuc, ◌+ℤ◌, ◌-ℤ◌, ◌*ℤ◌, ◌≤ℤ◌, ◌<ℤ◌, neg_ℤ, int_le, int_lt, int_div, int_rem, unsigned_abs, bit_and, bit_or, bit_xor, Option, Some, None, Result, Ok, Err}
use Rattle.std.specs.Ordering.{int_eq}
use Rattle.std.specs.Int.{int_min, int_max, int_shr}
use Rattle.std.proofs.Common.{arith, refl, ap, sym, subst, inl, inr, ◌∙◌}
use Rattle.std.proofs.lemmas.Int.{ints, clamps, by_lt_z, rem_below}
use Rattle.std.proofs.lemmas.Nat.{and_le_l, and_comm, or_lt, xor_lt}
use Rattle.std.proofs.lemmas.Bool.Decides.{Decides-int_eq, nat_tests}
use Rattle.std.proofs.Math.Nat.{mod-eq_of_lt}
use Rattle.std.proofs.Math.Pow.{pow_mono, pow_pos}
use native.Mathlib.Nat.{mod-le}
use Rattle.pk_ctypes.specs.declared.types.IntType.{IntType}
use Rattle.pk_ctypes.specs.declared.types.IntType.TheVariants.{Char, SChar, UChar, Short, UShort, Int, UInt, Long, ULong, LLong, ULLong}
use Rattle.pk_ctypes.specs.declared.types.Op.{Op}
use Rattle.pk_ctypes.specs.declared.types.Op.TheVariants.{Add, Sub, Mul, Div, Rem, Shl, Shr, And, Or, Xor, Lt, Gt, Le, Ge, Eq, Ne, Neg, BitNot, Not}
use Rattle.pk_ctypes.specs.declared.faults.Fault.{Fault}
use Rattle.pk_ctypes.specs.declared.faults.Fault.TheVariants.{DivZero, Overflow, Shift}
use Rattle.pk_ctypes.specs.Types.{width_of, size_of, is_signed_of, high_of, InType, is_in_type, wrapped}
use Rattle.pk_ctypes.specs.Operators.{exact, divided, rest_of, counted, doubled, is_count, is_below_zero, bits_of, bitwise, complement, truth, fitted_if, fault_past}
use Rattle.pk_ctypes.proofs.Wrapped.{sized, zero_in}
use Rattle.pk_ctypes.proofs.Values.{zero_test, wrapped_inside}
use Rattle.pk_ctypes.proofs.Shifts.{count_is, not_below_zero}
use Rattle.pk_ctypes.proofs.Bits.{bitwise_in, made}
use Rattle.pk_interval.specs.declared.outcome.Outcome.{Outcome}
use Rattle.pk_interval.specs.Ranges.{Range, Holds, HeldBy, IsIn, single, whole, range_from, joined}
use Rattle.pk_interval.specs.Operators.{within_if, range_sum, range_difference, range_negative, hull_of, product_of, hull_if, range_product, above_zero, below_zero, HasOneSign, both_parts, range_quotient, greatest_of, rest_low, rest_high, rests_within, range_rest, counts_of, shiftable, shifted_left, shifted_right, left_by, right_by, digits_of, is_natural, range_and, range_or, complement_of, range_complement, truths, is_below, is_at_most, is_one, are_apart, range_of, HasRightIn}
use Rattle.pk_interval.specs.Fitting.{finished}
use Rattle.pk_interval.specs.Laws.{KnownBy, IsSound}
use Rattle.pk_interval.proofs.Numbers.{below_digits, left_rises}
use Rattle.pk_interval.proofs.Order.{held_from}
use Rattle.pk_interval.proofs.Sums.{Between, between_hull, parts_le, parts_ge, sum_sound, difference_sound, product_sound, corners_sound}
use Rattle.pk_interval.proofs.Fits.{finished_sound}

-- an equation of results is one of numbers
ok_is : (u z : ℤ) → (let r : Result ℤ Fault = Ok u in let s : Result ℤ Fault = Ok z in r ≡ s) → u ≡ z
ok_is u z e = cc

-- ---- products

-- o is z, if it is a number
abbrev IsIt : Option ℤ → ℤ → Type 0
IsIt None z = Unit {0}
IsIt (Some v) z = v ≡ z

hull_known : (p q r s z : ℤ) (o1 o2 o3 o4 : Option ℤ) → IsIt o1 p → IsIt o2 q → IsIt o3 r → IsIt o4 s → Holds (hull_of p q r s) z → KnownBy (hull_if o1 o2 o3 o4) z
hull_known p q r s z (Some p') (Some q') (Some r') (Some s') e f g h k = rw (e, f, g, h) k
hull_known p q r s z (Some p') (Some q') (Some r') None e f g h k = tt
hull_known p q r s z (Some p') (Some q') None o4 e f g h k = tt
hull_known p q r s z (Some p') None o3 o4 e f g h k = tt
hull_known p q r s z None o2 o3 o4 e f g h k = tt

is_product : (x y : ℤ) → IsIt (product_of x y) (x *ℤ y)
is_product x y = by (nat_lt (unsigned_abs (x *ℤ y)) (2 ^ 127))
  where
    by : (b : Bool) → IsIt (if b then Some (x *ℤ y) else None) (x *ℤ y)
    by true = refl
    by false = tt

pub product_known : (a b : Range) (x y : ℤ) → Holds a x → Holds b y → KnownBy (range_product a b) (x *ℤ y)
product_known a b x y h k = hull_known _ _ _ _ _ _ _ _ _ (is_product a.lo b.lo) (is_product a.lo b.hi) (is_product a.hi b.lo) (is_product a.hi b.hi) (product_sound a b x y h k)

-- ---- quotients and rests

-- a division has a divisor other than 0
divided_is : (y : ℤ) (r : Result ℤ Fault) (z : ℤ) → divided y r ≡ Ok z → (y ≡ pos 0 → ⊥) × (r ≡ Ok z)
divided_is y r z e = by (int_eq y (pos 0)) refl
  where
    by : (b : Bool) → int_eq y (pos 0) ≡ b → (y ≡ pos 0 → ⊥) × (r ≡ Ok z)
    by true t = absurd (cc (ap (λ b. if b then Err DivZero else r) t))
    by false t = (λ n. absurd (cc (zero_test y n)), sym (ap (λ b. if b then Err DivZero else r) t) ∙ e)

known_if : (o : Option Range) (z : ℤ) → HeldBy o z → KnownBy (within_if o) z
known_if None z h = absurd h
known_if (Some r) z h = h

held_join_left : (p q : Range) (z : ℤ) → Holds p z → Holds (joined p q) z
held_join_left p q z h = record { from = omega (arith, ints, clamps, h.from); to = omega (arith, ints, clamps, h.to) }

held_join_right : (p q : Range) (z : ℤ) → Holds q z → Holds (joined p q) z
held_join_right p q z h = record { from = omega (arith, ints, clamps, h.from); to = omega (arith, ints, clamps, h.to) }

-- by the part that has the divisor
first_part : (a : Range) (o o' : Option Range) (x y : ℤ) → Holds a x → HeldBy o y → ((d : Range) → o ≡ Some d → HasOneSign d) → HeldBy (both_parts a o o') (int_div x y)
first_part a None o' x y h k s = absurd k
first_part a (Some d) None x y h k s = corners_sound a d x y h k (s d refl)
first_part a (Some d) (Some e) x y h k s = held_join_left _ _ _ (corners_sound a d x y h k (s d refl))

second_part : (a : Range) (o o' : Option Range) (x y : ℤ) → Holds a x → HeldBy o' y → ((d : Range) → o' ≡ Some d → HasOneSign d) → HeldBy (both_parts a o o') (int_div x y)
second_part a o None x y h k s = absurd k
second_part a None (Some e) x y h k s = corners_sound a e x y h k (s e refl)
second_part a (Some d) (Some e) x y h k s = held_join_right _ _ _ (corners_sound a e x y h k (s e refl))

from_is : (l h : ℤ) (d : Range) → range_from l h ≡ Some d → (d.lo ≡ l) × (d.hi ≡ h)
from_is l h d = by (int_le l h)
  where
    by : (b : Bool) → (if b then Some (record { lo = l; hi = h }) else None) ≡ Some d → (d.lo ≡ l) × (d.hi ≡ h)
    by true e = let r : Range = record { lo = l; hi = h } in let same : r ≡ d = cc in (ap (λ (v : Range). v.lo) (sym same), ap (λ (v : Range). v.hi) (sym same))
    by false e = absurd (cc)

above_sign : (b d : Range) → above_zero b ≡ Some d → HasOneSign d
above_sign b d e = let ends = from_is (int_max b.lo (pos 1)) b.hi d e in inl (omega (arith, ints, clamps, ends.0))

below_sign : (b d : Range) → below_zero b ≡ Some d → HasOneSign d
below_sign b d e = let ends = from_is b.lo (int_min b.hi (negsuc 0)) d e in inr (omega (arith, ints, clamps, ends.1))

signs : (y : ℤ) → (y ≡ pos 0 → ⊥) → (pos 1 ≤ℤ y) ⊎ (y ≤ℤ negsuc 0)
signs (pos zero) n = absurd (n refl)
signs (pos (suc y)) n = inl (omega (arith, ints))
signs (negsuc y) n = inr (omega (arith, ints))

quotient_held : (a b : Range) (x y : ℤ) → Holds a x → Holds b y → (pos 1 ≤ℤ y) ⊎ (y ≤ℤ negsuc 0) → HeldBy (range_quotient a b) (int_div x y)
quotient_held a b x y h k (inl s) =
    first_part a (above_zero b) (below_zero b) x y h
    (held_from (int_max b.lo (pos 1)) b.hi y (omega (arith, ints, clamps, k.from)) k.to) (above_sign b)
quotient_held a b x y h k (inr s) =
    second_part a (above_zero b) (below_zero b) x y h
    (held_from b.lo (int_min b.hi (negsuc 0)) y k.from (omega (arith, ints, clamps, k.to))) (below_sign b)

pub quotient_known : (a b : Range) (x y z : ℤ) → Holds a x → Holds b y → divided y (Ok (int_div x y)) ≡ Ok z → KnownBy (within_if (range_quotient a b)) z
quotient_known a b x y z h k e =
    let is = divided_is y (Ok (int_div x y)) z e in
    subst (KnownBy (within_if (range_quotient a b))) (ok_is (int_div x y) z is.1) (known_if (range_quotient a b) (int_div x y) (quotient_held a b x y h k (signs y is.0)))

-- the divisor's absolute value is at most the greatest
size_most : (b : Range) (y : ℤ) → Holds b y → unsigned_abs y ≤ greatest_of b
size_most b (pos y) k = by b.hi refl
  where
    by : (z : ℤ) → z ≡ b.hi → y ≤ max (unsigned_abs b.lo) (unsigned_abs b.hi)
    by (pos n) e = let same = ap unsigned_abs e in omega (arith, ints, k.to, e, same)
    by (negsuc n) e = absurd (omega (arith, ints, k.to, e))
size_most b (negsuc y) k = by b.lo refl
  where
    by : (z : ℤ) → z ≡ b.lo → suc y ≤ max (unsigned_abs b.lo) (unsigned_abs b.hi)
    by (pos n) e = absurd (omega (arith, ints, k.from, e))
    by (negsuc n) e = let same = ap unsigned_abs e in omega (arith, ints, k.from, e, same)

low_rest : (lo x z : ℤ) (m : ℕ) → lo ≤ℤ x → unsigned_abs z ≤ m → (pos 0 ≤ℤ x → pos 0 ≤ℤ z) → (x ≤ℤ pos 0 → x ≤ℤ z) → rest_low lo (pos m) ≤ℤ z
low_rest lo x z m h k from past = by (int_le (pos 0) lo) refl
  where
    at_least : neg_ℤ (pos m) ≤ℤ z
    at_least = omega (arith, ints, k)

    by : (b : Bool) → int_le (pos 0) lo ≡ b → (if b then pos 0 else int_max lo (neg_ℤ (pos m))) ≤ℤ z
    by true e = from (omega (arith, ints, h, e))
    by false e = by_lt_z x (pos 0) (λ l. let q = past (omega (arith, ints)) in omega (arith, ints, clamps, h, e, q, at_least)) (λ l. let q = from l in omega (arith, ints, clamps, e, q, at_least))

high_rest : (hi x z : ℤ) (m : ℕ) → x ≤ℤ hi → unsigned_abs z ≤ m → (pos 0 ≤ℤ x → z ≤ℤ x) → (x ≤ℤ pos 0 → z ≤ℤ pos 0) → z ≤ℤ rest_high hi (pos m)
high_rest hi x z m h k from past = by (int_le hi (pos 0)) refl
  where
    at_most : z ≤ℤ pos m
    at_most = omega (arith, ints, k)

    by : (b : Bool) → int_le hi (pos 0) ≡ b → z ≤ℤ (if b then pos 0 else int_min hi (pos m))
    by true e = past (omega (arith, ints, h, e))
    by false e = by_lt_z x (pos 0) (λ l. let q = past (omega (arith, ints)) in omega (arith, ints, clamps, e, q, at_most)) (λ l. let q = from l in omega (arith, ints, clamps, h, q, at_most))

-- a rest lies between its dividend and 0
record IsRest (x z : ℤ) : Type 0 where
  natural : pos 0 ≤ℤ x → pos 0 ≤ℤ z
  natural_most : pos 0 ≤ℤ x → z ≤ℤ x
  negative : x ≤ℤ pos 0 → z ≤ℤ pos 0
  negative_least : x ≤ℤ pos 0 → x ≤ℤ z

is_rest : (x y : ℤ) → IsRest x (int_rem x y)
is_rest (pos a) y =
    let small = mod-le a (unsigned_abs y) in
    record { natural = λ h. omega (arith, ints); natural_most = λ h. omega (arith, ints); negative = λ h. omega (arith, ints); negative_least = λ h. omega (arith, ints) }
is_rest (negsuc a) y =
    let small = mod-le (suc a) (unsigned_abs y) in
    record { natural = λ h. absurd (omega (arith, ints)); natural_most = λ h. absurd (omega (arith, ints)); negative = λ h. omega (arith, ints); negative_least = λ h. omega (arith, ints) }

some_abs : (y : ℤ) → (y ≡ pos 0 → ⊥) → 0 < unsigned_abs y
some_abs (pos zero) n = absurd (n refl)
some_abs (pos (suc y)) n = omega arith
some_abs (negsuc y) n = omega arith

rests_hold : (a : Range) (x z : ℤ) (g : ℕ) → Holds a x → unsigned_abs z < g → IsRest x z → Holds (rests_within a (pos g -ℤ pos 1)) z
rests_hold a x z g h k is =
    let same : pos g -ℤ pos 1 ≡ pos (g - 1) = omega (arith, ints, k) in
    let small : unsigned_abs z ≤ g - 1 = omega (arith, k) in
    rw same (record { from = low_rest a.lo x z (g - 1) h.from small is.natural is.negative_least; to = high_rest a.hi x z (g - 1) h.to small is.natural_most is.negative })

rest_held : (a b : Range) (x y : ℤ) → Holds a x → Holds b y → (y ≡ pos 0 → ⊥) → HeldBy (range_rest a b) (int_rem x y)
rest_held a b x y h k n =
    let some = some_abs y n in
    let below = rem_below x y some in
    let most = size_most b y k in
    let test : (greatest_of b == 0) ≡ false = grind (arith, nat_tests) in
    rw test (rests_hold a x (int_rem x y) (greatest_of b) h (omega (arith, below, most)) (is_rest x y))

rest_is : (t : IntType) (x y z : ℤ) → rest_of t x y ≡ Ok z → int_rem x y ≡ z
rest_is t x y z = by (is_in_type t (int_div x y))
  where
    by : (b : Bool) → (if b then Ok (int_rem x y) else Err Overflow) ≡ Ok z → int_rem x y ≡ z
    by true e = ok_is (int_rem x y) z e
    by false e = absurd (cc)

pub rest_known : (t : IntType) (a b : Range) (x y z : ℤ) → Holds a x → Holds b y → divided y (rest_of t x y) ≡ Ok z → KnownBy (within_if (range_rest a b)) z
rest_known t a b x y z h k e =
    let is = divided_is y (rest_of t x y) z e in
    subst (KnownBy (within_if (range_rest a b))) (rest_is t x y z is.1) (known_if (range_rest a b) (int_rem x y) (rest_held a b x y h k is.0))

-- ---- shifts

counted_is : (t : IntType) (y : ℤ) (f : ℕ → Result ℤ Fault) (z : ℤ) → counted t y f ≡ Ok z → (is_count t y ≡ true) × (f (unsigned_abs y) ≡ Ok z)
counted_is t y f z e = by (is_count t y) refl
  where
    by : (b : Bool) → is_count t y ≡ b → (is_count t y ≡ true) × (f (unsigned_abs y) ≡ Ok z)
    by true c = (c, sym (ap (λ b. if b then f (unsigned_abs y) else Err Shift) c) ∙ e)
    by false c = absurd (cc (ap (λ b. if b then f (unsigned_abs y) else Err Shift) c))

doubled_is : (t : IntType) (x z : ℤ) (n : ℕ) → doubled t x n ≡ Ok z → (is_below_zero t x ≡ false) × (x *ℤ pos (2 ^ n) ≡ z)
doubled_is t x z n e = by (is_below_zero t x) refl
  where
    by : (b : Bool) → is_below_zero t x ≡ b → (is_below_zero t x ≡ false) × (x *ℤ pos (2 ^ n) ≡ z)
    by true c = absurd (cc (ap (λ b. if b then Err Shift else Ok (x *ℤ pos (2 ^ n))) c))
    by false c = (c, ok_is (x *ℤ pos (2 ^ n)) z (sym (ap (λ b. if b then Err Shift else Ok (x *ℤ pos (2 ^ n))) c) ∙ e))

counts_hold : (t : IntType) (b : Range) (y : ℤ) → Holds b y → is_count t y ≡ true → HeldBy (counts_of t b) y
counts_hold t b y k c =
    let count = count_is t y c in
    held_from (int_max b.lo (pos 0)) (int_min b.hi (pos (width_of t) -ℤ pos 1)) y (omega (arith, ints, clamps, k.from, count.from)) (omega (arith, ints, clamps, k.to, count.below))

-- the range that is found has these ends
pub found_low : (l h : ℤ) (d : Range) → range_from l h ≡ Some d → d.lo ≡ l
found_low l h d e = let ends = from_is l h d e in ends.0

left_known : (x y : ℤ) (o o' : Option Range) → HeldBy o x → HeldBy o' y → ((d : Range) → o ≡ Some d → pos 0 ≤ℤ d.lo) → ((d : Range) → o' ≡ Some d → pos 0 ≤ℤ d.lo) → KnownBy (within_if (left_by o o')) (shifted_left x y)
left_known x y None o' h k f g = absurd h
left_known x y (Some a) None h k f g = absurd k
left_known x y (Some a) (Some c) h k f g =
    let first = f a refl in
    let least = g c refl in
    record {
      from = left_rises a.lo x c.lo y first h.from least k.from;
      to = left_rises x a.hi y c.hi (omega (arith, ints, first, h.from)) h.to (omega (arith, ints, least, k.from)) k.to;
    }

pub left_sound : (t : IntType) (a b : Range) (x y z : ℤ) → InType t x → Holds a x → Holds b y → counted t y (doubled t x) ≡ Ok z → KnownBy (within_if (left_by (shiftable a) (counts_of t b))) z
left_sound t a b x y z i h k e =
    let count = counted_is t y (doubled t x) z e in
    let is = doubled_is t x z (unsigned_abs y) count.1 in
    let natural = not_below_zero t x i is.0 in
    subst (KnownBy (within_if (left_by (shiftable a) (counts_of t b)))) is.1
    (left_known x y (shiftable a) (counts_of t b)
    (held_from (int_max a.lo (pos 0)) a.hi x (omega (arith, ints, clamps, h.from, natural)) h.to)
    (counts_hold t b y k count.0)
    (λ d e. let low = found_low (int_max a.lo (pos 0)) a.hi d e in omega (arith, ints, clamps, low))
    (λ d e. let low = found_low (int_max b.lo (pos 0)) (int_min b.hi (pos (width_of t) -ℤ pos 1)) d e in omega (arith, ints, clamps, low)))

-- a shift to the right by more bits is nearer to 0 or -1
right_by_counts : (x : ℤ) (c n d : ℕ) → c ≤ n → n ≤ d → Between (int_shr x c) (int_shr x d) (int_shr x n)
right_by_counts (pos a) c n d h k =
    let first = parts_ge a (2 ^ c) (2 ^ n) (pow_pos c) (pow_mono {i = c} {j = n} h) in
    let second = parts_ge a (2 ^ n) (2 ^ d) (pow_pos n) (pow_mono {i = n} {j = d} k) in
    record { least = omega (arith, ints, clamps, first, second); most = omega (arith, ints, clamps, first, second) }
right_by_counts (negsuc a) c n d h k =
    let first = parts_ge a (2 ^ c) (2 ^ n) (pow_pos c) (pow_mono {i = c} {j = n} h) in
    let second = parts_ge a (2 ^ n) (2 ^ d) (pow_pos n) (pow_mono {i = n} {j = d} k) in
    record { least = omega (arith, ints, clamps, first, second); most = omega (arith, ints, clamps, first, second) }

right_rises : (x y : ℤ) (n : ℕ) → x ≤ℤ y → int_shr x n ≤ℤ int_shr y n
right_rises (pos a) (pos b) n h = let rises = parts_le a b (2 ^ n) (pow_pos n) (omega (arith, ints, h)) in omega (arith, ints, rises)
right_rises (pos a) (negsuc b) n h = absurd (omega (arith, ints, h))
right_rises (negsuc a) (pos b) n h = omega (arith, ints)
right_rises (negsuc a) (negsuc b) n h = let rises = parts_le b a (2 ^ n) (pow_pos n) (omega (arith, ints, h)) in omega (arith, ints, rises)

right_between : (l x r : ℤ) (n : ℕ) → l ≤ℤ x → x ≤ℤ r → Between (int_shr l n) (int_shr r n) (int_shr x n)
right_between l x r n h k =
    let first = right_rises l x n h in
    let second = right_rises x r n k in
    record { least = omega (arith, ints, clamps, first, second); most = omega (arith, ints, clamps, first, second) }

abs_between : (l y : ℤ) → pos 0 ≤ℤ l → l ≤ℤ y → unsigned_abs l ≤ unsigned_abs y
abs_between l y h k = omega (arith, ints, h, k)

right_known : (a : Range) (x y : ℤ) (o : Option Range) → Holds a x → HeldBy o y → ((d : Range) → o ≡ Some d → pos 0 ≤ℤ d.lo) → KnownBy (within_if (right_by a o)) (shifted_right x y)
right_known a x y None h k g = absurd k
right_known a x y (Some c) h k g =
    let least = g c refl in
    let low = abs_between c.lo y least k.from in
    let high = abs_between y c.hi (omega (arith, ints, least, k.from)) k.to in
    between_hull _ _ _ _ (shifted_right a.lo y) (shifted_right a.hi y) _
    (right_by_counts a.lo (unsigned_abs c.lo) (unsigned_abs y) (unsigned_abs c.hi) low high)
    (right_by_counts a.hi (unsigned_abs c.lo) (unsigned_abs y) (unsigned_abs c.hi) low high)
    (right_between a.lo x a.hi (unsigned_abs y) h.from h.to)

pub right_sound : (t : IntType) (a b : Range) (x y z : ℤ) → Holds a x → Holds b y → counted t y (λ n. Ok (int_shr x n)) ≡ Ok z → KnownBy (within_if (right_by a (counts_of t b))) z
right_sound t a b x y z h k e =
    let count = counted_is t y (λ n. Ok (int_shr x n)) z e in
    subst (KnownBy (within_if (right_by a (counts_of t b)))) (ok_is (int_shr x (unsigned_abs y)) z count.1)
    (right_known a x y (counts_of t b) h (counts_hold t b y k count.0)
    (λ d e. let low = found_low (int_max b.lo (pos 0)) (int_min b.hi (pos (width_of t) -ℤ pos 1)) d e in omega (arith, ints, clamps, low)))

-- ---- bits

-- the greatest number of a type has all bits below some place
ones_of : (t : IntType) → (k : ℕ) × (high_of t ≡ pos (2 ^ k - 1))
ones_of Char = (7, refl)
ones_of SChar = (7, refl)
ones_of UChar = (8, refl)
ones_of Short = (15, refl)
ones_of UShort = (16, refl)
ones_of Int = (31, refl)
ones_of UInt = (32, refl)
ones_of Long = (63, refl)
ones_of ULong = (64, refl)
ones_of LLong = (63, refl)
ones_of ULLong = (64, refl)

high_below : (t : IntType) → high_of t <ℤ pos (size_of t)
high_below Char = omega (arith, ints)
high_below SChar = omega (arith, ints)
high_below UChar = omega (arith, ints)
high_below Short = omega (arith, ints)
high_below UShort = omega (arith, ints)
high_below Int = omega (arith, ints)
high_below UInt = omega (arith, ints)
high_below Long = omega (arith, ints)
high_below ULong = omega (arith, ints)
high_below LLong = omega (arith, ints)
high_below ULLong = omega (arith, ints)

-- the bits of a natural number of the type are the number
natural_bits : (t : IntType) (n : ℕ) → InType t (pos n) → bits_of t (pos n) ≡ n
natural_bits t n h = let last = high_below t in mod-eq_of_lt (omega (arith, ints, h.to, last))

-- a natural number that is at most one of the type is one
natural_in : (t : IntType) (n : ℕ) → pos n ≤ℤ high_of t → InType t (pos n)
natural_in t n h = let zero = zero_in t in record { from = omega (arith, ints, zero.0); to = h }

and_le_r : (a b : ℕ) → bit_and a b ≤ b
and_le_r a b = rw (and_comm a b) (and_le_l b a)

-- bits of both, of which the left is natural
and_left : (t : IntType) (x : ℕ) (y : ℤ) → InType t (pos x) → bitwise bit_and t (pos x) y ≡ pos (bit_and x (bits_of t y))
and_left t x y h =
    let most = and_le_l x (bits_of t y) in
    ap (λ n. wrapped t (pos (bit_and n (bits_of t y)))) (natural_bits t x h) ∙ wrapped_inside t (pos (bit_and x (bits_of t y))) (natural_in t (bit_and x (bits_of t y)) (omega (arith, ints, most, h.to)))

and_right : (t : IntType) (x : ℤ) (y : ℕ) → InType t (pos y) → bitwise bit_and t x (pos y) ≡ pos (bit_and (bits_of t x) y)
and_right t x y h =
    let most = and_le_r (bits_of t x) y in
    ap (λ n. wrapped t (pos (bit_and (bits_of t x) n))) (natural_bits t y h) ∙ wrapped_inside t (pos (bit_and (bits_of t x) y)) (natural_in t (bit_and (bits_of t x) y) (omega (arith, ints, most, h.to)))

and_held : (t : IntType) (a b : Range) (x y : ℤ) → InType t x → InType t y → Holds a x → Holds b y → Holds (range_and t a b) (bitwise bit_and t x y)
and_held t a b x y i j h k = by (is_natural a) (is_natural b) refl refl x y i j h k
  where
    by : (m n : Bool) → is_natural a ≡ m → is_natural b ≡ n → (x y : ℤ) → InType t x → InType t y → Holds a x → Holds b y → Holds (if m then record { lo = pos 0; hi = if n then int_min a.hi b.hi else a.hi } else (if n then record { lo = pos 0; hi = b.hi } else whole t)) (bitwise bit_and t x y)
    by true true e f (pos x) (pos y) i j h k =
        let left = and_le_l x (bits_of t (pos y)) in
        let right = and_le_r x (bits_of t (pos y)) in
        let bits = natural_bits t y j in
        rw (and_left t x (pos y) i) (record { from = omega (arith, ints); to = omega (arith, ints, clamps, left, right, bits, h.to, k.to) })
    by true true e f (pos x) (negsuc y) i j h k = absurd (omega (arith, ints, f, k.from))
    by true n e f (negsuc x) y i j h k = absurd (omega (arith, ints, e, h.from))
    by true false e f (pos x) y i j h k =
        let left = and_le_l x (bits_of t y) in
        rw (and_left t x y i) (record { from = omega (arith, ints); to = omega (arith, ints, left, h.to) })
    by false true e f x (pos y) i j h k =
        let right = and_le_r (bits_of t x) y in
        rw (and_right t x y j) (record { from = omega (arith, ints); to = omega (arith, ints, right, k.to) })
    by false true e f x (negsuc y) i j h k = absurd (omega (arith, ints, f, k.from))
    by false false e f x y i j h k = let inside = bitwise_in bit_and t x y in record { from = inside.from; to = inside.to }

-- bits of either, or of one
either_natural : (f : ℕ → ℕ → ℕ) → ((k a b : ℕ) → a < 2 ^ k → b < 2 ^ k → f a b < 2 ^ k) → (t : IntType) (x y : ℕ) → InType t (pos x) → InType t (pos y) → bitwise f t (pos x) (pos y) ≡ pos (f x y)
either_natural f small t x y i j =
    let ones = ones_of t in
    let some : 0 < 2 ^ ones.0 = pow_pos ones.0 in
    let below = small ones.0 x y (omega (arith, ints, i.to, ones.1, some)) (omega (arith, ints, j.to, ones.1, some)) in
    ap (λ n. wrapped t (pos (f n (bits_of t (pos y))))) (natural_bits t x i) ∙ ap (λ n. wrapped t (pos (f x n))) (natural_bits t y j)
    ∙ wrapped_inside t (pos (f x y)) (natural_in t (f x y) (omega (arith, ints, ones.1, below, some)))

either_below : (f : ℕ → ℕ → ℕ) → ((k a b : ℕ) → a < 2 ^ k → b < 2 ^ k → f a b < 2 ^ k) → (x y m : ℕ) → x ≤ m → y ≤ m → m < 2 ^ 64 → f x y < 2 ^ digits_of 64 m
either_below f small x y m h k l =
    let below = below_digits 64 m l in
    small (digits_of 64 m) x y (omega (arith, h, below)) (omega (arith, k, below))

top_natural : (z : ℤ) (x : ℕ) → pos x ≤ℤ z → (n : ℕ) × (z ≡ pos n) × (x ≤ n)
top_natural (pos n) x h = (n, refl, omega (arith, ints, h))
top_natural (negsuc n) x h = absurd (omega (arith, ints, h))

or_held : (f : ℕ → ℕ → ℕ) → ((k a b : ℕ) → a < 2 ^ k → b < 2 ^ k → f a b < 2 ^ k) → (t : IntType) (a b : Range) (x y : ℤ) → IsIn t a → IsIn t b → InType t x → InType t y → Holds a x → Holds b y → Holds (range_or t a b) (bitwise f t x y)
or_held f small t a b x y p q i j h k = by (is_natural a) (is_natural b) refl refl x y i j h k
  where
    last_in : InType t (int_max a.hi b.hi)
    last_in = record { from = omega (arith, ints, clamps, p.to.from); to = omega (arith, ints, clamps, p.to.to, q.to.to) }

    by : (m n : Bool) → is_natural a ≡ m → is_natural b ≡ n → (x y : ℤ) → InType t x → InType t y → Holds a x → Holds b y → Holds (if m && n then record { lo = pos 0; hi = pos (2 ^ digits_of 64 (unsigned_abs (int_max a.hi b.hi)) - 1) } else whole t) (bitwise f t x y)
    by true true e g (pos x) (pos y) i j h k =
        let top = top_natural (int_max a.hi b.hi) x (omega (arith, ints, clamps, h.to)) in
        let size = sized t (int_max a.hi b.hi) last_in in
        let same : unsigned_abs (int_max a.hi b.hi) ≡ top.0 = ap unsigned_abs top.1 in
        let right : y ≤ top.0 = omega (arith, ints, clamps, k.to, top.1) in
        let below = either_below f small x y top.0 top.2 right (omega (arith, ints, size.1, top.1)) in
        let value = either_natural f small t x y i j in
        rw (value, same) (record { from = omega (arith, ints); to = omega (arith, ints, below) })
    by true true e g (pos x) (negsuc y) i j h k = absurd (omega (arith, ints, g, k.from))
    by true true e g (negsuc x) y i j h k = absurd (omega (arith, ints, e, h.from))
    by true false e g x y i j h k = let inside = bitwise_in f t x y in record { from = inside.from; to = inside.to }
    by false n e g x y i j h k = let inside = bitwise_in f t x y in record { from = inside.from; to = inside.to }

complement_falls : (t : IntType) (x y : ℤ) → x ≤ℤ y → complement_of t y ≤ℤ complement_of t x
complement_falls t x y h = by (is_signed_of t)
  where
    by : (s : Bool) → (if s then negsuc 0 -ℤ y else high_of t -ℤ y) ≤ℤ (if s then negsuc 0 -ℤ x else high_of t -ℤ x)
    by true = omega (arith, ints, h)
    by false = omega (arith, ints, h)

complement_is : (t : IntType) (x : ℤ) → InType t x → complement t x ≡ complement_of t x
complement_is t x h = by (is_signed_of t) refl
  where
    by : (s : Bool) → is_signed_of t ≡ s → complement t x ≡ (if s then negsuc 0 -ℤ x else high_of t -ℤ x)
    by true s = made.signed t x s h
    by false s = made.unsigned t x s h

complement_held : (t : IntType) (a : Range) (x : ℤ) → InType t x → Holds a x → Holds (range_complement t a) (complement t x)
complement_held t a x i h = rw (complement_is t x i) (record { from = complement_falls t x a.hi h.to; to = complement_falls t a.lo x h.from })

-- ---- comparisons

truths_hold : (sure never test : Bool) → (sure ≡ true → test ≡ true) → (never ≡ true → test ≡ false) → Holds (truths sure never) (truth test)
truths_hold true never true f g = record { from = omega (arith, ints); to = omega (arith, ints) }
truths_hold true never false f g = let e = f refl in absurd (cc)
truths_hold false true true f g = let e = g refl in absurd (cc)
truths_hold false true false f g = record { from = omega (arith, ints); to = omega (arith, ints) }
truths_hold false false true f g = record { from = omega (arith, ints); to = omega (arith, ints) }
truths_hold false false false f g = record { from = omega (arith, ints); to = omega (arith, ints) }

less_test : (x y : ℤ) → x <ℤ y → int_lt x y ≡ true
less_test x y h = grind (arith, ints)

not_less_test : (x y : ℤ) → y ≤ℤ x → int_lt x y ≡ false
not_less_test x y h = grind (arith, ints)

most_test : (x y : ℤ) → x ≤ℤ y → int_le x y ≡ true
most_test x y h = grind (arith, ints)

not_most_test : (x y : ℤ) → y <ℤ x → int_le x y ≡ false
not_most_test x y h = grind (arith, ints)

below_is : (a b : Range) (x y : ℤ) → Holds a x → Holds b y → is_below a b ≡ true → x <ℤ y
below_is a b x y h k e = omega (arith, ints, e, h.to, k.from)

most_is : (a b : Range) (x y : ℤ) → Holds a x → Holds b y → is_at_most a b ≡ true → x ≤ℤ y
most_is a b x y h k e = omega (arith, ints, e, h.to, k.from)

equal_test : (x y : ℤ) → x ≡ y → int_eq x y ≡ true
equal_test x y e = let is = Decides-int_eq x y in is.1 e

not_equal_test : (x y : ℤ) → (x ≡ y → ⊥) → int_eq x y ≡ false
not_equal_test x y n = by (int_eq x y) refl
  where
    by : (b : Bool) → int_eq x y ≡ b → b ≡ false
    by true e = let is = Decides-int_eq x y in absurd (n (is.0 e))
    by false e = refl

one_is : (a b : Range) (x y : ℤ) → Holds a x → Holds b y → is_one a b ≡ true → x ≡ y
one_is a b x y h k = by (is_at_most a b) (is_at_most b a) refl refl
  where
    by : (m n : Bool) → is_at_most a b ≡ m → is_at_most b a ≡ n → (m && n) ≡ true → x ≡ y
    by true true e f g = let first = most_is a b x y h k e in let second = most_is b a y x k h f in omega (arith, ints, first, second)
    by true false e f g = absurd (cc)
    by false n e f g = absurd (cc)

apart_is : (a b : Range) (x y : ℤ) → Holds a x → Holds b y → are_apart a b ≡ true → x ≡ y → ⊥
apart_is a b x y h k = by (is_below a b) (is_below b a) refl refl
  where
    by : (m n : Bool) → is_below a b ≡ m → is_below b a ≡ n → (m || n) ≡ true → x ≡ y → ⊥
    by true n e f g same = let less = below_is a b x y h k e in absurd (omega (arith, ints, less, same))
    by false true e f g same = let less = below_is b a y x k h f in absurd (omega (arith, ints, less, same))
    by false false e f g same = absurd (cc)

less_held : (a b : Range) (x y : ℤ) → Holds a x → Holds b y → Holds (truths (is_below a b) (is_at_most b a)) (truth (int_lt x y))
less_held a b x y h k = truths_hold (is_below a b) (is_at_most b a) (int_lt x y) (λ e. less_test x y (below_is a b x y h k e)) (λ e. not_less_test x y (most_is b a y x k h e))

most_held : (a b : Range) (x y : ℤ) → Holds a x → Holds b y → Holds (truths (is_at_most a b) (is_below b a)) (truth (int_le x y))
most_held a b x y h k = truths_hold (is_at_most a b) (is_below b a) (int_le x y) (λ e. most_test x y (most_is a b x y h k e)) (λ e. not_most_test x y (below_is b a y x k h e))

equal_held : (a b : Range) (x y : ℤ) → Holds a x → Holds b y → Holds (truths (is_one a b) (are_apart a b)) (truth (int_eq x y))
equal_held a b x y h k = truths_hold (is_one a b) (are_apart a b) (int_eq x y) (λ e. equal_test x y (one_is a b x y h k e)) (λ e. not_equal_test x y (apart_is a b x y h k e))

different_held : (a b : Range) (x y : ℤ) → Holds a x → Holds b y → Holds (truths (are_apart a b) (is_one a b)) (truth (not (int_eq x y)))
different_held a b x y h k = truths_hold (are_apart a b) (is_one a b) (not (int_eq x y)) (λ e. ap not (not_equal_test x y (apart_is a b x y h k e))) (λ e. ap not (equal_test x y (one_is a b x y h k e)))

-- ---- each operator

member_in : (t : IntType) (a : Range) (x : ℤ) → IsIn t a → Holds a x → InType t x
member_in t a x i h = record { from = omega (arith, ints, i.from.from, h.from); to = omega (arith, ints, i.to.to, h.to) }

known_as : (r : Range) (u z : ℤ) → Holds r u → (let p : Result ℤ Fault = Ok u in let q : Result ℤ Fault = Ok z in p ≡ q) → Holds r z
known_as r u z h e = subst (Holds r) (ok_is u z e) h

pub before : (op : Op) (t : IntType) (a b : Range) (x y z : ℤ) → IsIn t a → HasRightIn op t b → Holds a x → Holds b y → exact op t x y ≡ Ok z → KnownBy (range_of op t a b) z
before Add t a b x y z i j h k e = known_as (range_sum a b) (x +ℤ y) z (sum_sound a b x y h k) e
before Sub t a b x y z i j h k e = known_as (range_difference a b) (x -ℤ y) z (difference_sound a b x y h k) e
before Mul t a b x y z i j h k e = subst (KnownBy (range_product a b)) (ok_is (x *ℤ y) z e) (product_known a b x y h k)
before Div t a b x y z i j h k e = quotient_known a b x y z h k e
before Rem t a b x y z i j h k e = rest_known t a b x y z h k e
before Shl t a b x y z i j h k e = left_sound t a b x y z (member_in t a x i h) h k e
before Shr t a b x y z i j h k e = right_sound t a b x y z h k e
before And t a b x y z i j h k e = known_as (range_and t a b) (bitwise bit_and t x y) z (and_held t a b x y (member_in t a x i h) (member_in t b y j k) h k) e
before Or t a b x y z i j h k e = known_as (range_or t a b) (bitwise bit_or t x y) z (or_held bit_or (λ k a b h l. or_lt k a b h l) t a b x y i j (member_in t a x i h) (member_in t b y j k) h k) e
before Xor t a b x y z i j h k e = known_as (range_or t a b) (bitwise bit_xor t x y) z (or_held bit_xor (λ k a b h l. xor_lt k a b h l) t a b x y i j (member_in t a x i h) (member_in t b y j k) h k) e
before Lt t a b x y z i j h k e = known_as (truths (is_below a b) (is_at_most b a)) (truth (int_lt x y)) z (less_held a b x y h k) e
before Gt t a b x y z i j h k e = known_as (truths (is_below b a) (is_at_most a b)) (truth (int_lt y x)) z (less_held b a y x k h) e
before Le t a b x y z i j h k e = known_as (truths (is_at_most a b) (is_below b a)) (truth (int_le x y)) z (most_held a b x y h k) e
before Ge t a b x y z i j h k e = known_as (truths (is_at_most b a) (is_below a b)) (truth (int_le y x)) z (most_held b a y x k h) e
before Eq t a b x y z i j h k e = known_as (truths (is_one a b) (are_apart a b)) (truth (int_eq x y)) z (equal_held a b x y h k) e
before Ne t a b x y z i j h k e = known_as (truths (are_apart a b) (is_one a b)) (truth (not (int_eq x y))) z (different_held a b x y h k) e
before Neg t a b x y z i j h k e = known_as (range_negative a) (neg_ℤ x) z (record { from = omega (arith, ints, h.to); to = omega (arith, ints, h.from) }) e
before BitNot t a b x y z i j h k e = known_as (range_complement t a) (complement t x) z (complement_held t a x (member_in t a x i h) h) e
before Not t a b x y z i j h k e = known_as (truths (is_one a (single (pos 0))) (are_apart a (single (pos 0)))) (truth (int_eq x (pos 0))) z (equal_held a (single (pos 0)) x (pos 0) h (record { from = omega (arith, ints); to = omega (arith, ints) })) e

-- the number before the type, and what the type makes of it
fitted_of : (fault : Fault) (t : IntType) (r : Result ℤ Fault) (o : Outcome) (z : ℤ) → ((u : ℤ) → r ≡ Ok u → KnownBy o u) → fitted_if fault t r ≡ Ok z → HeldBy (finished t o) z
fitted_of fault t (Ok u) o z f e = finished_sound fault t o u z (f u refl) e
fitted_of fault t (Err g) o z f e = absurd (cc)

pub sound : IsSound
sound = record {
  before = before;
  after = λ op t a b x y z i j h k e. fitted_of (fault_past op) t (exact op t x y) (range_of op t a b) z (λ u. before op t a b x y u i j h k) e;
}
