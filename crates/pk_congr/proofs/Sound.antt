-- The operators on classes are sound, and so is wrapping.
use Rattle.std.specs.Prelude.{◌≡◌, ℕ, zero, suc, ◌/◌, ◌<◌, ◌^◌, ◌&&◌, Bool, true, false, not, if◌then◌else◌, ℤ, pos, negsuc, ◌+ℤ◌, ◌-ℤ◌, ◌*ℤ◌, neg_ℤ, int_div, int_rem, unsigned_abs, Some, None, Result, Ok, Err}
use Rattle.std.specs.Ordering.{int_eq}
use Rattle.std.proofs.Common.{arith, ◌∙◌, ap, refl, sym, subst}
use Rattle.std.proofs.Math.Nat.{mul-div_cancel}
use Rattle.std.proofs.Math.IntN.{*ℤ_comm}
use Rattle.std.proofs.lemmas.Int.{ints, quot-rem, unsigned_abs-mul}
use Rattle.pk_ctypes.specs.declared.types.IntType.{IntType}
use Rattle.pk_ctypes.specs.declared.types.Op.TheVariants.{Add, Sub, Mul, Div, Rem, Shl, Shr, And, Or, Xor, Lt, Gt, Le, Ge, Eq, Ne, Neg, BitNot, Not}
use Rattle.pk_ctypes.specs.declared.faults.Fault.{Fault}
use Rattle.pk_ctypes.specs.declared.faults.Fault.TheVariants.{DivZero, Overflow, Shift}
use Rattle.pk_ctypes.specs.Types.{InType, is_signed_of, is_in_type, high_of, size_of, wrapped}
use Rattle.pk_ctypes.specs.Operators.{divided, rest_of, counted, doubled, is_count, is_below_zero, complement}
use Rattle.pk_ctypes.specs.Laws.{IsTruncatedDivision}
use Rattle.pk_ctypes.proofs.Whole.{sum_times, times_sum}
use Rattle.pk_ctypes.proofs.Wrapped.{wrapped_same}
use Rattle.pk_ctypes.proofs.Bits.{made}
use Rattle.pk_ctypes.proofs.Quotients.{truncated, only_division}
use Rattle.pk_congr.specs.Classes.{Class, IsMember, int_gcd, divides, every, class_if}
use Rattle.pk_congr.specs.Operators.{are_products_held, class_product, is_divided, class_quotient, class_rest, is_counted, class_doubled, class_complement, complement_total, result_of}
use Rattle.pk_congr.specs.Laws.{OperatorsAreSound, WrappingIsSound}
use Rattle.pk_congr.proofs.Multiples.{Multiple, assoc, self_multiple, sum_multiple, difference_multiple, negative_multiple, times_multiple, multiple_trans, test_multiple}
use Rattle.pk_congr.proofs.Gcd.{gcd_left, gcd_right}
use Rattle.pk_ctypes.proofs.Small.{both_true}
use Rattle.pk_congr.proofs.Numbers.{apart_by, every_member, tested_zero, tested_some, class_if_has}
use Rattle.pk_congr.proofs.Order.{multiple_of_abs}

abbrev good : ℤ → Result ℤ Fault
good x = Ok x

ok_is : (x z : ℤ) → good x ≡ Ok z → x ≡ z
ok_is x z e = cc

sum_sound : (a b : Class) (x y : ℤ) → IsMember a x → IsMember b y → IsMember (class_if (int_gcd a.m b.m) (a.r +ℤ b.r)) (x +ℤ y)
sum_sound a b x y h k =
    let g = int_gcd a.m b.m in
    let left = multiple_trans g a.m (x -ℤ a.r) (gcd_left a.m b.m) (apart_by a x h) in
    let right = multiple_trans g b.m (y -ℤ b.r) (gcd_right a.m b.m) (apart_by b y k) in
    let s = sum_multiple g (x -ℤ a.r) (y -ℤ b.r) left right in
    class_if_has g (a.r +ℤ b.r) (x +ℤ y) (s.0, omega (arith, ints, s.1))

difference_sound : (a b : Class) (x y : ℤ) → IsMember a x → IsMember b y → IsMember (class_if (int_gcd a.m b.m) (a.r -ℤ b.r)) (x -ℤ y)
difference_sound a b x y h k =
    let g = int_gcd a.m b.m in
    let left = multiple_trans g a.m (x -ℤ a.r) (gcd_left a.m b.m) (apart_by a x h) in
    let right = multiple_trans g b.m (y -ℤ b.r) (gcd_right a.m b.m) (apart_by b y k) in
    let s = difference_multiple g (x -ℤ a.r) (y -ℤ b.r) left right in
    class_if_has g (a.r -ℤ b.r) (x -ℤ y) (s.0, omega (arith, ints, s.1))

-- (km + r)(ln + s) - rs is a sum of multiples of mn, ms and nr
product_differs : (m r n s k l : ℤ) → (r +ℤ k *ℤ m) *ℤ (s +ℤ l *ℤ n) -ℤ r *ℤ s ≡ (k *ℤ l) *ℤ (m *ℤ n) +ℤ k *ℤ (m *ℤ s) +ℤ l *ℤ (n *ℤ r)
product_differs m r n s k l =
    let outer = sum_times r (k *ℤ m) (s +ℤ l *ℤ n) in
    let first = times_sum s (l *ℤ n) r in
    let second = times_sum s (l *ℤ n) (k *ℤ m) in
    let turned : r *ℤ (l *ℤ n) ≡ l *ℤ (n *ℤ r) = *ℤ_comm r (l *ℤ n) ∙ assoc l n r in
    let middle : (k *ℤ m) *ℤ (l *ℤ n) ≡ (k *ℤ l) *ℤ (m *ℤ n) =
    assoc k m (l *ℤ n) ∙ ap (λ v. k *ℤ v) (sym (assoc m l n) ∙ ap (λ v. v *ℤ n) (*ℤ_comm m l) ∙ assoc l m n) ∙ sym (assoc k l (m *ℤ n)) in
    let last = assoc k m s in
    omega (arith, ints)

product_multiple : (a b : Class) (x y : ℤ) → IsMember a x → IsMember b y → Multiple (int_gcd (int_gcd (a.m *ℤ b.m) (a.m *ℤ b.r)) (b.m *ℤ a.r)) (x *ℤ y -ℤ a.r *ℤ b.r)
product_multiple a b x y h k =
    let d = int_gcd (a.m *ℤ b.m) (a.m *ℤ b.r) in
    let g = int_gcd d (b.m *ℤ a.r) in
    let first = multiple_trans g d (a.m *ℤ b.m) (gcd_left d (b.m *ℤ a.r)) (gcd_left (a.m *ℤ b.m) (a.m *ℤ b.r)) in
    let second = multiple_trans g d (a.m *ℤ b.r) (gcd_left d (b.m *ℤ a.r)) (gcd_right (a.m *ℤ b.m) (a.m *ℤ b.r)) in
    let third = gcd_right d (b.m *ℤ a.r) in
    let s = sum_multiple g ((h.0 *ℤ k.0) *ℤ (a.m *ℤ b.m) +ℤ h.0 *ℤ (a.m *ℤ b.r)) (k.0 *ℤ (b.m *ℤ a.r))
    (sum_multiple g ((h.0 *ℤ k.0) *ℤ (a.m *ℤ b.m)) (h.0 *ℤ (a.m *ℤ b.r)) (times_multiple g (a.m *ℤ b.m) (h.0 *ℤ k.0) first) (times_multiple g (a.m *ℤ b.r) h.0 second))
    (times_multiple g (b.m *ℤ a.r) k.0 third) in
    (s.0, ap (λ v. v *ℤ y -ℤ a.r *ℤ b.r) h.1 ∙ ap (λ v. (a.r +ℤ h.0 *ℤ a.m) *ℤ v -ℤ a.r *ℤ b.r) k.1 ∙ product_differs a.m a.r b.m b.r h.0 k.0 ∙ s.1)

product_sound : (a b : Class) (x y : ℤ) → IsMember a x → IsMember b y → IsMember (class_product a b) (x *ℤ y)
product_sound a b x y h k = by (are_products_held a b)
  where
    by : (t : Bool) → IsMember (if t then class_if (int_gcd (int_gcd (a.m *ℤ b.m) (a.m *ℤ b.r)) (b.m *ℤ a.r)) (a.r *ℤ b.r) else every) (x *ℤ y)
    by true = class_if_has (int_gcd (int_gcd (a.m *ℤ b.m) (a.m *ℤ b.r)) (b.m *ℤ a.r)) (a.r *ℤ b.r) (x *ℤ y) (product_multiple a b x y h k)
    by false = every_member (x *ℤ y)

-- an exact quotient
some_size : (c : ℤ) → (c ≡ pos 0 → ⊥) → 0 < unsigned_abs c
some_size (pos zero) h = absurd (h refl)
some_size (pos (suc n)) h = omega arith
some_size (negsuc n) h = omega arith

exact_quotient : (q c : ℤ) → (c ≡ pos 0 → ⊥) → int_div (q *ℤ c) c ≡ q
exact_quotient q c h =
    let is : IsTruncatedDivision (q *ℤ c) c q (pos 0) = record {
      whole = omega (arith, ints);
      toward_zero = omega arith;
      smaller = some_size c h;
      not_negative = λ l. omega (arith, ints);
      not_positive = λ l. omega (arith, ints);
    } in
    (only_division (q *ℤ c) c (int_div (q *ℤ c) c) (int_rem (q *ℤ c) c) q (pos 0) (truncated (q *ℤ c) c h) is).0

quotient_differs : (m r c x : ℤ) → (c ≡ pos 0 → ⊥) → Multiple c m → Multiple c r → Multiple m (x -ℤ r) → Multiple (pos (unsigned_abs m / unsigned_abs c)) (int_div x c -ℤ int_div r c)
quotient_differs m r c x h p q k =
    let size : unsigned_abs m / unsigned_abs c ≡ unsigned_abs p.0 =
    ap (λ n. n / unsigned_abs c) (ap unsigned_abs p.1 ∙ unsigned_abs-mul p.0 c) ∙ mul-div_cancel (unsigned_abs p.0) (some_size c h) in
    let below : int_div r c ≡ q.0 = ap (λ v. int_div v c) q.1 ∙ exact_quotient q.0 c h in
    let product : k.0 *ℤ m ≡ (k.0 *ℤ p.0) *ℤ c = ap (λ v. k.0 *ℤ v) p.1 ∙ sym (assoc k.0 p.0 c) in
    let all : x ≡ (q.0 +ℤ k.0 *ℤ p.0) *ℤ c = omega (arith, ints, k.1, q.1, product, sum_times q.0 (k.0 *ℤ p.0) c) in
    let above : int_div x c ≡ q.0 +ℤ k.0 *ℤ p.0 = ap (λ v. int_div v c) all ∙ exact_quotient (q.0 +ℤ k.0 *ℤ p.0) c h in
    let s = multiple_of_abs p.0 (k.0 *ℤ p.0) (times_multiple p.0 p.0 k.0 (self_multiple p.0)) in
    subst (λ (n : ℕ). Multiple (pos n) (int_div x c -ℤ int_div r c)) (sym size) (s.0, omega (arith, ints, above, below, s.1))

divided_is : (y : ℤ) (r : Result ℤ Fault) (z : ℤ) → divided y r ≡ Ok z → (r ≡ Ok z) × (y ≡ pos 0 → ⊥)
divided_is y r z e = by (int_eq y (pos 0)) refl e
  where
    by : (t : Bool) → int_eq y (pos 0) ≡ t → (if t then Err DivZero else r) ≡ Ok z → (r ≡ Ok z) × (y ≡ pos 0 → ⊥)
    by true f e = absurd (cc)
    by false f e = (e, tested_some y f)

pub constant_is : (b : Class) (y : ℤ) → b.m ≡ pos 0 → IsMember b y → y ≡ b.r
constant_is b y e h = let none : h.0 *ℤ b.m ≡ pos 0 = ap (λ v. h.0 *ℤ v) e ∙ omega (arith, ints) in omega (arith, ints, h.1)

quotient_sound : (a b : Class) (x y z : ℤ) → IsMember a x → IsMember b y → divided y (Ok (int_div x y)) ≡ Ok z → IsMember (class_quotient a b) z
quotient_sound a b x y z h k e = by (is_divided a b) refl
  where
    by : (t : Bool) → is_divided a b ≡ t → IsMember (if t then class_if (pos (unsigned_abs a.m / unsigned_abs b.r)) (int_div a.r b.r) else every) z
    by false f = every_member z
    by true f =
        let three = both_true (int_eq b.m (pos 0) && not (int_eq b.r (pos 0)) && divides b.r a.m) (divides b.r a.r) f in
        let two = both_true (int_eq b.m (pos 0) && not (int_eq b.r (pos 0))) (divides b.r a.m) three.0 in
        let one = both_true (int_eq b.m (pos 0)) (not (int_eq b.r (pos 0))) two.0 in
        let ends = divided_is y (Ok (int_div x y)) z e in
        let is = constant_is b y (tested_zero b.m one.0) k in
        let some : b.r ≡ pos 0 → ⊥ = λ g. ends.1 (is ∙ g) in
        let quotient : int_div x b.r ≡ z = ap (λ v. int_div x v) (sym is) ∙ ok_is (int_div x y) z ends.0 in
        let d = quotient_differs a.m a.r b.r x some (test_multiple b.r a.m two.1) (test_multiple b.r a.r three.1) (apart_by a x h) in
        class_if_has (pos (unsigned_abs a.m / unsigned_abs b.r)) (int_div a.r b.r) z (d.0, omega (arith, ints, d.1, quotient))

rest_is : (t : IntType) (x y z : ℤ) → rest_of t x y ≡ Ok z → int_rem x y ≡ z
rest_is t x y z e = by (is_in_type t (int_div x y)) e
  where
    by : (b : Bool) → (if b then Ok (int_rem x y) else Err Overflow) ≡ Ok z → int_rem x y ≡ z
    by true e = ok_is (int_rem x y) z e
    by false e = absurd (cc)

rest_sound : (t : IntType) (a b : Class) (x y z : ℤ) → IsMember a x → IsMember b y → divided y (rest_of t x y) ≡ Ok z → IsMember (class_rest a b) z
rest_sound t a b x y z h k e =
    let g = int_gcd a.m b.m in
    let d = int_gcd g b.r in
    let is = rest_is t x y z (divided_is y (rest_of t x y) z e).0 in
    let left = multiple_trans d g (x -ℤ a.r) (gcd_left g b.r) (multiple_trans g a.m (x -ℤ a.r) (gcd_left a.m b.m) (apart_by a x h)) in
    let right = multiple_trans d g (y -ℤ b.r) (gcd_left g b.r) (multiple_trans g b.m (y -ℤ b.r) (gcd_right a.m b.m) (apart_by b y k)) in
    let divisor = sum_multiple d (y -ℤ b.r) b.r right (gcd_right g b.r) in
    let all = times_multiple d ((y -ℤ b.r) +ℤ b.r) (int_div x y) divisor in
    let s = difference_multiple d (x -ℤ a.r) (int_div x y *ℤ ((y -ℤ b.r) +ℤ b.r)) left all in
    let same : int_div x y *ℤ ((y -ℤ b.r) +ℤ b.r) ≡ int_div x y *ℤ y = ap (λ v. int_div x y *ℤ v) (omega (arith, ints)) in
    class_if_has d a.r z (s.0, omega (arith, ints, s.1, is, same, quot-rem x y))

doubled_is : (t : IntType) (x : ℤ) (n : ℕ) (z : ℤ) → doubled t x n ≡ Ok z → x *ℤ pos (2 ^ n) ≡ z
doubled_is t x n z e = by (is_below_zero t x) e
  where
    by : (b : Bool) → (if b then Err Shift else Ok (x *ℤ pos (2 ^ n))) ≡ Ok z → x *ℤ pos (2 ^ n) ≡ z
    by true e = absurd (cc)
    by false e = ok_is (x *ℤ pos (2 ^ n)) z e

counted_is : (t : IntType) (y : ℤ) (f : ℕ → Result ℤ Fault) (z : ℤ) → counted t y f ≡ Ok z → f (unsigned_abs y) ≡ Ok z
counted_is t y f z e = by (is_count t y) e
  where
    by : (b : Bool) → (if b then f (unsigned_abs y) else Err Shift) ≡ Ok z → f (unsigned_abs y) ≡ Ok z
    by true e = e
    by false e = absurd (cc)

doubled_sound : (t : IntType) (a b : Class) (x y z : ℤ) → IsMember a x → IsMember b y → counted t y (doubled t x) ≡ Ok z → IsMember (class_doubled t a b) z
doubled_sound t a b x y z h k e = by (is_counted t b) refl
  where
    by : (w : Bool) → is_counted t b ≡ w → IsMember (if w then class_if (a.m *ℤ pos (2 ^ unsigned_abs b.r)) (a.r *ℤ pos (2 ^ unsigned_abs b.r)) else every) z
    by false f = every_member z
    by true f =
        let p = pos (2 ^ unsigned_abs b.r) in
        let constant = tested_zero b.m (both_true (int_eq b.m (pos 0)) (is_count t b.r) f).0 in
        let is = constant_is b y constant k in
        let first = doubled_is t x (unsigned_abs y) z (counted_is t y (doubled t x) z e) in
        let product : x *ℤ p ≡ z = ap (λ v. x *ℤ pos (2 ^ unsigned_abs v)) (sym is) ∙ first in
        let all : x *ℤ p ≡ a.r *ℤ p +ℤ (h.0 *ℤ a.m) *ℤ p = ap (λ v. v *ℤ p) h.1 ∙ sum_times a.r (h.0 *ℤ a.m) p in
        class_if_has (a.m *ℤ p) (a.r *ℤ p) z (h.0, omega (arith, ints, product, all, assoc h.0 a.m p))

negative_sound : (a : Class) (x : ℤ) → IsMember a x → IsMember (class_if a.m (neg_ℤ a.r)) (neg_ℤ x)
negative_sound a x h =
    let s = negative_multiple a.m (x -ℤ a.r) (apart_by a x h) in
    class_if_has a.m (neg_ℤ a.r) (neg_ℤ x) (s.0, omega (arith, ints, s.1))

complement_is_less : (t : IntType) (x : ℤ) → InType t x → complement t x ≡ complement_total t -ℤ x
complement_is_less t x h = by (is_signed_of t) refl
  where
    by : (s : Bool) → is_signed_of t ≡ s → complement t x ≡ (if s then negsuc 0 else high_of t) -ℤ x
    by true e = made.signed t x e h
    by false e = made.unsigned t x e h

complement_sound : (t : IntType) (a : Class) (x : ℤ) → InType t x → IsMember a x → IsMember (class_complement t a) (complement t x)
complement_sound t a x i h =
    let is = complement_is_less t x i in
    let s = negative_multiple a.m (x -ℤ a.r) (apart_by a x h) in
    class_if_has a.m (complement_total t -ℤ a.r) (complement t x) (s.0, omega (arith, ints, s.1, is))

at : (c : Class) (x z : ℤ) → good x ≡ Ok z → IsMember c x → IsMember c z
at c x z e h = subst (IsMember c) (ok_is x z e) h

pub sound : OperatorsAreSound
sound Add t a b x y z i h k e = at (result_of Add t a b) (x +ℤ y) z e (sum_sound a b x y h k)
sound Sub t a b x y z i h k e = at (result_of Sub t a b) (x -ℤ y) z e (difference_sound a b x y h k)
sound Mul t a b x y z i h k e = at (result_of Mul t a b) (x *ℤ y) z e (product_sound a b x y h k)
sound Div t a b x y z i h k e = quotient_sound a b x y z h k e
sound Rem t a b x y z i h k e = rest_sound t a b x y z h k e
sound Shl t a b x y z i h k e = doubled_sound t a b x y z h k e
sound Shr t a b x y z i h k e = every_member z
sound And t a b x y z i h k e = every_member z
sound Or t a b x y z i h k e = every_member z
sound Xor t a b x y z i h k e = every_member z
sound Lt t a b x y z i h k e = every_member z
sound Gt t a b x y z i h k e = every_member z
sound Le t a b x y z i h k e = every_member z
sound Ge t a b x y z i h k e = every_member z
sound Eq t a b x y z i h k e = every_member z
sound Ne t a b x y z i h k e = every_member z
sound Neg t a b x y z i h k e = at (result_of Neg t a b) (neg_ℤ x) z e (negative_sound a x h)
sound BitNot t a b x y z i h k e = at (result_of BitNot t a b) (complement t x) z e (complement_sound t a x (i refl) h)
sound Not t a b x y z i h k e = every_member z

pub wrapping_sound : WrappingIsSound
wrapping_sound t a (Some added) z h e =
    let d = apart_by a z h in
    class_if_has a.m (a.r +ℤ added) (wrapped t z) (d.0, omega (arith, ints, d.1, e))
wrapping_sound t a None z h e =
    let n = pos (size_of t) in
    let g = int_gcd a.m n in
    let same = wrapped_same t z in
    let left = multiple_trans g a.m (z -ℤ a.r) (gcd_left a.m n) (apart_by a z h) in
    let right = times_multiple g n same.0 (gcd_right a.m n) in
    let s = sum_multiple g (z -ℤ a.r) (same.0 *ℤ n) left right in
    class_if_has g a.r (wrapped t z) (s.0, omega (arith, ints, s.1, same.1))
