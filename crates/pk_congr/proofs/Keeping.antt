-- What changes nothing.
use Rattle.std.specs.Prelude.{◌≡◌, ◌⊎◌, ℕ, ◌<◌, Bool, true, false, if◌then◌else◌, ℤ, pos, negsuc, neg_ℤ, ◌-ℤ◌, ◌≤ℤ◌, ◌<ℤ◌, unsigned_abs}
use Rattle.std.specs.Ordering.{int_eq}
use Rattle.std.specs.Int.{int_rem_euclid}
use Rattle.std.proofs.Common.{arith, refl, ap, inl, inr, ◌∙◌}
use Rattle.std.proofs.lemmas.Int.{ints}
use Rattle.std.proofs.lemmas.Nat.Gcd.{dvd_antisymm}
use Rattle.std.proofs.Math.Nat.{mod-eq_of_lt}
use Rattle.pk_congr.specs.Classes.{Class, IsReduced, int_gcd, class_if, rest_modulo, divides, is_within, joined, narrowed}
use Rattle.pk_congr.specs.Laws.{NothingChanges}
use Rattle.pk_congr.proofs.Gcd.{gcd_left, gcd_greatest}
use Rattle.pk_congr.proofs.Multiples.{Multiple, test_multiple, self_multiple, zero_multiple, negative_multiple, dvd_from_multiple, multiple_test}
use Rattle.pk_ctypes.proofs.Small.{and_true, both_true}
use Rattle.pk_congr.proofs.Numbers.{class_if_is, rest_of_some, rest_of_zero}
use Rattle.pk_congr.proofs.Widening.{still_of}

-- a number divides another exactly where it is their greatest common divisor
gcd_is : (d z : ℤ) → pos 0 ≤ℤ d → Multiple d z → int_gcd d z ≡ d
gcd_is d z h m =
    let first = dvd_from_multiple (int_gcd d z) d (gcd_left d z) in
    let second = dvd_from_multiple d (int_gcd d z) (gcd_greatest d z d (self_multiple d) m) in
    let same : unsigned_abs (int_gcd d z) ≡ unsigned_abs d = dvd_antisymm first second in
    omega (arith, ints, same, h)

rest_stays : (m r : ℤ) → IsReduced m r → rest_modulo r m ≡ r
rest_stays m r h = by h.rest
  where
    by : (m ≡ pos 0) ⊎ ((pos 0 ≤ℤ r) × (r <ℤ m)) → rest_modulo r m ≡ r
    by (inl e) = rest_of_zero r m e
    by (inr p) = rest_of_some r m (λ e. absurd (omega (arith, ints, e, p.0, p.1))) ∙ inside r m p.0 p.1
      where
        inside : (r m : ℤ) → pos 0 ≤ℤ r → r <ℤ m → int_rem_euclid r m ≡ r
        inside (pos x) (pos n) k l = let less : x < n = omega (arith, ints, l) in ap (λ (v : ℕ). pos v) (mod-eq_of_lt less)
        inside (pos x) (negsuc n) k l = absurd (omega (arith, ints, l))
        inside (negsuc x) m k l = absurd (omega (arith, ints, k))

class_stays : (a : Class) → IsReduced a.m a.r → class_if a.m a.r ≡ a
class_stays a h =
    class_if_is a.m a.r h.modulus_held h.rest_held ∙ ap (λ (z : ℤ). let c : Class = record { m = a.m; r = z } in c) (rest_stays a.m a.r h)

joins_same : (a b : Class) → IsReduced a.m a.r → is_within b a ≡ true → joined a b ≡ a
joins_same a b h e =
    let tests = both_true (divides a.m b.m) (divides a.m (b.r -ℤ a.r)) e in
    let moduli : int_gcd a.m b.m ≡ a.m = gcd_is a.m b.m h.from (test_multiple a.m b.m tests.0) in
    let turned : Multiple a.m (a.r -ℤ b.r) = turn a.m a.r b.r (test_multiple a.m (b.r -ℤ a.r) tests.1) in
    let all : int_gcd (int_gcd a.m b.m) (a.r -ℤ b.r) ≡ a.m = ap (λ d. int_gcd d (a.r -ℤ b.r)) moduli ∙ gcd_is a.m (a.r -ℤ b.r) h.from turned in
    ap (λ d. class_if d a.r) all ∙ class_stays a h
  where
    turn : (m x y : ℤ) → Multiple m (y -ℤ x) → Multiple m (x -ℤ y)
    turn m x y k = let d : (x -ℤ y) ≡ neg_ℤ (y -ℤ x) = omega (arith, ints) in rw d (negative_multiple m (y -ℤ x) k)

narrows_same : (h : Class) → narrowed h h ≡ h
narrows_same h = by (int_eq h.m (pos 1))
  where
    by : (b : Bool) → (if b then h else h) ≡ h
    by true = refl
    by false = refl

within_itself : (a : Class) → is_within a a ≡ true
within_itself a = and_true (divides a.m a.m) (divides a.m (a.r -ℤ a.r)) (multiple_test a.m a.m (self_multiple a.m)) (multiple_test a.m (a.r -ℤ a.r) (let none : (a.r -ℤ a.r) ≡ pos 0 = omega (arith, ints) in rw none (zero_multiple a.m)))

pub unchanged : NothingChanges
unchanged = record { joins = joins_same; narrowings = narrows_same; widened_of = λ t h n f g. still_of t h n f g; within_itself = within_itself }
