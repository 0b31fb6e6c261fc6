-- What the code's 128 bits hold is the number itself, where it fits.
use Rattle.std.specs.Prelude.{◌≡◌, ℕ, ◌*◌, ◌%◌, ◌≤◌, ◌<◌, ◌^◌, ◌-◌, ℤ, pos, negsuc, zero, suc, ◌⊎◌, ◌*ℤ◌, ◌≤ℤ◌, ◌<ℤ◌, Option, Some, None, IfSome, int_le, FitsSigned, unsigned_abs, nat_lt, int_div, if◌then◌else◌, true, false, Bool}
use Rattle.std.specs.Option.{SomeIff}
use Rattle.std.specs.Int.{w128, int_min, int_max}
use Rattle.std.proofs.Common.{arith, ◌∙◌, ap, refl, inl, inr, to_z, of_z}
use Rattle.std.proofs.lemmas.Int.{ints, to_z-of_z}
use Rattle.std.proofs.lemmas.Nat.{mul-le}
use Rattle.std.proofs.Math.Nat.{mul-le-mul}
use Rattle.std.proofs.Math.Pow.{pow_mono}
use Rattle.std.proofs.lemmas.Bool.{cases_lt}
use Rattle.std.proofs.lemmas.Bool.Decides.{nat_tests}
use Rattle.pk_ctypes.specs.declared.types.IntType.{IntType}
use Rattle.pk_ctypes.specs.declared.types.IntType.TheVariants.{Char, SChar, UChar, Short, UShort, Int, UInt, Long, ULong, LLong, ULLong}
use Rattle.pk_ctypes.specs.Types.{InType}
use Rattle.pk_ctypes.proofs.Wrapped.{sized}
use Rattle.pk_ctypes.proofs.Shifts.{shifted_back}
use Rattle.pk_ctypes.specs.declared.types.Op.{Op}
use Rattle.pk_ctypes.specs.declared.types.Op.TheVariants.{Add, Sub, Mul, Div, Rem, Shl, Shr, And, Or, Xor, Lt, Gt, Le, Ge, Eq, Ne, Neg, BitNot, Not}
use Rattle.pk_interval.specs.Ranges.{Range, IsIn, range_from}
use Rattle.pk_interval.specs.Operators.{hull_of, product_of, shifted_left, shifted_right, digits_of, AreCounts, is_unary}

pub same_range : (lo hi lo' hi' : ℤ) → lo ≡ lo' → hi ≡ hi' → let r : Range = record { lo = lo; hi = hi } in let r' : Range = record { lo = lo'; hi = hi' } in r ≡ r'
same_range lo hi lo' hi' e f = cc

-- where a type has a negative number, its numbers are small
small_beside : (t : IntType) (n : ℕ) (z : ℤ) → InType t (negsuc n) → InType t z → (suc n ≤ 2 ^ 63) × (unsigned_abs z ≤ 2 ^ 63)
small_beside Char n z h k = (omega (arith, ints, h.from), omega (arith, ints, k.from, k.to))
small_beside SChar n z h k = (omega (arith, ints, h.from), omega (arith, ints, k.from, k.to))
small_beside UChar n z h k = absurd (omega (arith, ints, h.from))
small_beside Short n z h k = (omega (arith, ints, h.from), omega (arith, ints, k.from, k.to))
small_beside UShort n z h k = absurd (omega (arith, ints, h.from))
small_beside Int n z h k = (omega (arith, ints, h.from), omega (arith, ints, k.from, k.to))
small_beside UInt n z h k = absurd (omega (arith, ints, h.from))
small_beside Long n z h k = (omega (arith, ints, h.from), omega (arith, ints, k.from, k.to))
small_beside ULong n z h k = absurd (omega (arith, ints, h.from))
small_beside LLong n z h k = (omega (arith, ints, h.from), omega (arith, ints, k.from, k.to))
small_beside ULLong n z h k = absurd (omega (arith, ints, h.from))

pub product_from : (t : IntType) (x y : ℤ) → InType t x → InType t y → negsuc (2 ^ 126 - 1) ≤ℤ (x *ℤ y)
product_from t (pos a) (pos b) h k = omega (arith, ints)
product_from t (negsuc a) (negsuc b) h k = omega (arith, ints)
product_from t (pos a) (negsuc b) h k =
    let small = small_beside t b (pos a) k h in omega (arith, ints, mul-le a (suc b) (2 ^ 63) (2 ^ 63) small.1 small.0)
product_from t (negsuc a) (pos b) h k =
    let small = small_beside t a (pos b) h k in omega (arith, ints, mul-le (suc a) b (2 ^ 63) (2 ^ 63) small.0 small.1)

product_some : (z : ℤ) (b : Bool) → nat_lt (unsigned_abs z) (2 ^ 127) ≡ b → negsuc (2 ^ 126 - 1) ≤ℤ z → FitsSigned w128 z → Some z ≡ (if b then Some z else None)
product_some z true e h k = refl
product_some z false e h k = absurd (grind (arith, ints, nat_tests))

product_none : (z : ℤ) (b : Bool) → nat_lt (unsigned_abs z) (2 ^ 127) ≡ b → (FitsSigned w128 z → ⊥) → None ≡ (if b then Some z else None)
product_none z true e k = absurd (k (grind (arith, ints, nat_tests)))
product_none z false e k = refl

pub product_is : (x y : ℤ) (o : Option ℤ) → negsuc (2 ^ 126 - 1) ≤ℤ (x *ℤ y) → SomeIff o (FitsSigned w128 (x *ℤ y)) (x *ℤ y) → o ≡ product_of x y
product_is x y None h k = product_none (x *ℤ y) _ refl k
product_is x y (Some v) h k = ap Some k.1 ∙ product_some (x *ℤ y) _ refl h k.0

pub back : (x y : ℤ) (o : Option ℤ) → FitsSigned w128 x → FitsSigned w128 y → SomeIff o (FitsSigned w128 (to_z w128 (of_z w128 x) *ℤ to_z w128 (of_z w128 y))) (to_z w128 (of_z w128 x) *ℤ to_z w128 (of_z w128 y)) → SomeIff o (FitsSigned w128 (x *ℤ y)) (x *ℤ y)
back x y o f g h = simp to_z-of_z at h

pub min_value : (r x y : ℤ) → FitsSigned w128 x → FitsSigned w128 y → r ≡ int_min (to_z w128 (of_z w128 x)) (to_z w128 (of_z w128 y)) → r ≡ int_min x y
min_value r x y f g h = simp to_z-of_z at h

pub max_value : (r x y : ℤ) → FitsSigned w128 x → FitsSigned w128 y → r ≡ int_max (to_z w128 (of_z w128 x)) (to_z w128 (of_z w128 y)) → r ≡ int_max x y
max_value r x y f g h = simp to_z-of_z at h

pub back_to : (r z : ℤ) → FitsSigned w128 r → r ≡ z → to_z w128 (of_z w128 r) ≡ z
back_to r z f e = simp to_z-of_z e

pub quotient_value : (r x y x' y' : ℤ) → FitsSigned w128 r → FitsSigned w128 x → FitsSigned w128 y → r ≡ int_div (to_z w128 (of_z w128 x)) (to_z w128 (of_z w128 y)) → x ≡ x' → y ≡ y' → to_z w128 (of_z w128 r) ≡ int_div x' y'
quotient_value r x y x' y' k f g e h m = simp to_z-of_z ((simp to_z-of_z at e) ∙ ap (λ v. int_div v y) h ∙ ap (int_div x') m)

pub same_hull : (p q r s p' q' r' s' : ℤ) → p ≡ p' → q ≡ q' → r ≡ r' → s ≡ s' → hull_of p q r s ≡ hull_of p' q' r' s'
same_hull p q r s p' q' r' s' e f g h = rw (e, f, g, h) refl

pub left_back : (t : IntType) (x c : ℤ) → InType t x → pos 0 ≤ℤ x → pos 0 ≤ℤ c → c <ℤ pos 64 → to_z w128 ((of_z w128 x * 2 ^ of_z w128 c) % 2 ^ 128) ≡ shifted_left x c
left_back t (pos m) (pos n) h k l b =
    let size = sized t (pos m) h in
    shifted_back m n (omega (arith, ints, size.1)) (omega (arith, ints))
left_back t (negsuc m) c h k l b = absurd (omega (arith, ints))
left_back t (pos m) (negsuc n) h k l b = absurd (omega (arith, ints))

-- ---- digits

pub digits-fewer : (k m : ℕ) → m < 2 ^ k → digits_of (suc k) m ≡ digits_of k m
unfolding digits_of
digits-fewer k m h = let test : nat_lt m (2 ^ k) ≡ true = grind (arith, nat_tests) in rw test refl

pub digits-all : (k m : ℕ) → 2 ^ k ≤ m → digits_of (suc k) m ≡ suc k
unfolding digits_of
digits-all k m h = let test : nat_lt m (2 ^ k) ≡ false = grind (arith, nat_tests) in rw test refl

pub fewer_digits : (k m : ℕ) → 0 < k → m < 2 ^ (k - 1) → digits_of k m ≡ digits_of (k - 1) m
fewer_digits zero m l h = absurd (omega arith)
fewer_digits (suc k) m l h = let same : suc k - 1 ≡ k = omega arith in rw same (digits-fewer k m (rw same at h))

pub all_digits : (k m : ℕ) → 0 < k → 2 ^ (k - 1) ≤ m → digits_of k m ≡ k
all_digits zero m l h = absurd (omega arith)
all_digits (suc k) m l h = let same : suc k - 1 ≡ k = omega arith in digits-all k m (rw same at h)

pub digits-none : (m : ℕ) → digits_of 0 m ≡ 0
unfolding digits_of
digits-none m = refl

-- a number is below two to the power of its digits
pub below_digits : (k m : ℕ) → m < 2 ^ k → m < 2 ^ digits_of k m
below_digits zero m h = rw (digits-none m) h
below_digits (suc k) m h = by (below_digits k m) (cases_lt m (2 ^ k))
  where
    by : (m < 2 ^ k → m < 2 ^ digits_of k m) → (m < 2 ^ k) ⊎ (2 ^ k ≤ m) → m < 2 ^ digits_of (suc k) m
    by f (inl l) = rw (digits-fewer k m l) (f l)
    by f (inr l) = rw (digits-all k m l) h

-- ---- shifts

pub left_rises : (x y c d : ℤ) → pos 0 ≤ℤ x → x ≤ℤ y → pos 0 ≤ℤ c → c ≤ℤ d → shifted_left x c ≤ℤ shifted_left y d
left_rises (pos x) (pos y) (pos c) (pos d) h k l m =
    let power : 2 ^ c ≤ 2 ^ d = pow_mono {i = c} {j = d} (omega (arith, ints)) in
    let numbers : x ≤ y = omega (arith, ints) in
    let products : x * 2 ^ c ≤ y * 2 ^ d = mul-le-mul numbers power in
    omega (arith, ints, products)
left_rises (negsuc x) y c d h k l m = absurd (omega (arith, ints))
left_rises (pos x) (negsuc y) c d h k l m = absurd (omega (arith, ints))
left_rises (pos x) (pos y) (negsuc c) d h k l m = absurd (omega (arith, ints))
left_rises (pos x) (pos y) (pos c) (negsuc d) h k l m = absurd (omega (arith, ints))

pub left_value : (r x c x' c' : ℤ) → FitsSigned w128 r → FitsSigned w128 x → FitsSigned w128 c → r ≡ shifted_left (to_z w128 (of_z w128 x)) (to_z w128 (of_z w128 c)) → x ≡ x' → c ≡ c' → to_z w128 (of_z w128 r) ≡ shifted_left x' c'
left_value r x c x' c' k f g e h m = simp to_z-of_z ((simp to_z-of_z at e) ∙ ap (λ v. shifted_left v c) h ∙ ap (shifted_left x') m)

pub right_value : (r x c x' c' : ℤ) → FitsSigned w128 r → FitsSigned w128 x → FitsSigned w128 c → r ≡ shifted_right (to_z w128 (of_z w128 x)) (to_z w128 (of_z w128 c)) → x ≡ x' → c ≡ c' → to_z w128 (of_z w128 r) ≡ shifted_right x' c'
right_value r x c x' c' k f g e h m = simp to_z-of_z ((simp to_z-of_z at e) ∙ ap (λ v. shifted_right v c) h ∙ ap (shifted_right x') m)

pub few_from : (lo hi : ℤ) → pos 0 ≤ℤ lo → hi <ℤ pos 64 → IfSome (range_from lo hi) AreCounts
few_from lo hi h k = by (int_le lo hi) refl
  where
    by : (b : Bool) → int_le lo hi ≡ b → IfSome (if b then Some (record { lo = lo; hi = hi }) else None) AreCounts
    by true e = record { from = h; to = k; some = omega (arith, ints) }
    by false e = tt

-- ---- narrowing

pub found_from : (t : IntType) (lo hi : ℤ) (r : Range) → Some r ≡ range_from lo hi → InType t lo → InType t hi → IsIn t r
found_from t lo hi r e h k = by (int_le lo hi) e
  where
    by : (b : Bool) → Some r ≡ (if b then Some (record { lo = lo; hi = hi }) else None) → IsIn t r
    by true e = let same : r ≡ record { lo = lo; hi = hi } = cc in rw same (record { from = h; to = k })
    by false e = absurd (cc)

-- ---- unary operators

pub negation_is : (op : Op) → is_unary op ≡ true → (op ≡ Neg → ⊥) → (op ≡ BitNot → ⊥) → op ≡ Not
negation_is Add e h k = absurd (cc)
negation_is Sub e h k = absurd (cc)
negation_is Mul e h k = absurd (cc)
negation_is Div e h k = absurd (cc)
negation_is Rem e h k = absurd (cc)
negation_is Shl e h k = absurd (cc)
negation_is Shr e h k = absurd (cc)
negation_is And e h k = absurd (cc)
negation_is Or e h k = absurd (cc)
negation_is Xor e h k = absurd (cc)
negation_is Lt e h k = absurd (cc)
negation_is Gt e h k = absurd (cc)
negation_is Le e h k = absurd (cc)
negation_is Ge e h k = absurd (cc)
negation_is Eq e h k = absurd (cc)
negation_is Ne e h k = absurd (cc)
negation_is Neg e h k = absurd (h refl)
negation_is BitNot e h k = absurd (k refl)
negation_is Not e h k = refl

-- ---- orders

pub most_most : (x y z : ℤ) → x ≤ℤ y → y ≤ℤ z → x ≤ℤ z
most_most x y z h k = omega (arith, ints, h, k)

pub most_below : (x y z : ℤ) → x ≤ℤ y → y <ℤ z → x <ℤ z
most_below x y z h k = omega (arith, ints, h, k)
