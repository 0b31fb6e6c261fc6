-- Sums, products and quotients of members lie between those of the bounds.
use Rattle.std.specs.Prelude.{◌≡◌, ℕ, suc, ℤ, pos, negsuc, ◌+ℤ◌, ◌-ℤ◌, ◌*ℤ◌, neg_ℤ, int_div, ◌<◌, ◌≤◌, ◌/◌, ◌≤ℤ◌, ◌⊎◌}
use Rattle.std.specs.Int.{int_min, int_max}
use Rattle.std.proofs.Common.{arith, refl, sym, inl, inr}
use Rattle.std.proofs.lemmas.Int.{ints, clamps}
use lib.IntN.{*ℤ_comm, neg_ℤ-neg_ℤ}
use borrow.Author.Differences.{le_out}
use Rattle.std.proofs.Math.Nat.{mul-le-mul_left, div-mul-le_self}
use Rattle.std.proofs.lemmas.Nat.{le-div}
use Rattle.pk_ctypes.proofs.Whole.{times_le}
use Rattle.pk_interval.specs.Ranges.{Range, Holds}
use Rattle.pk_interval.specs.Operators.{range_sum, hull_of, range_difference, corner_quotients, HasOneSign}

pub sum_sound : (a b : Range) (x y : ℤ) → Holds a x → Holds b y → Holds (range_sum a b) (x +ℤ y)
sum_sound a b x y h k = record { from = omega (arith, ints, h.from, k.from); to = omega (arith, ints, h.to, k.to) }

times_le_negative : (n : ℕ) (b c : ℤ) → b ≤ℤ c → (negsuc n *ℤ c) ≤ℤ (negsuc n *ℤ b)
times_le_negative n b c k = omega (arith, ints, mul-le-mul_left (suc n) (le_out b c k))

-- m lies between p and q, whichever is the greater
pub record Between (p q m : ℤ) : Type 0 where
  pub least : int_min p q ≤ℤ m
  pub most : m ≤ℤ int_max p q

times_between : (c l y r : ℤ) → l ≤ℤ y → y ≤ℤ r → Between (c *ℤ l) (c *ℤ r) (c *ℤ y)
times_between (pos n) l y r h k =
    let first = times_le (pos n) l y (omega (arith, ints)) h in
    let second = times_le (pos n) y r (omega (arith, ints)) k in
    record { least = omega (arith, ints, clamps); most = omega (arith, ints, clamps) }
times_between (negsuc n) l y r h k =
    let first = times_le_negative n l y h in
    let second = times_le_negative n y r k in
    record { least = omega (arith, ints, clamps); most = omega (arith, ints, clamps) }

pub between_hull : (p q r s m n z : ℤ) → Between p q m → Between r s n → Between m n z → Holds (hull_of p q r s) z
between_hull p q r s m n z f g h = record { from = omega (arith, ints, clamps); to = omega (arith, ints, clamps) }

pub product_sound : (a b : Range) (x y : ℤ) → Holds a x → Holds b y → Holds (hull_of (a.lo *ℤ b.lo) (a.lo *ℤ b.hi) (a.hi *ℤ b.lo) (a.hi *ℤ b.hi)) (x *ℤ y)
product_sound a b x y h k =
    between_hull _ _ _ _ (a.lo *ℤ y) (a.hi *ℤ y) _
    (times_between a.lo b.lo y b.hi k.from k.to)
    (times_between a.hi b.lo y b.hi k.from k.to)
    (rw (*ℤ_comm a.lo y, *ℤ_comm a.hi y, *ℤ_comm x y) (times_between y a.lo x a.hi h.from h.to))

pub difference_sound : (a b : Range) (x y : ℤ) → Holds a x → Holds b y → Holds (range_difference a b) (x -ℤ y)
difference_sound a b x y h k = record { from = omega (arith, ints, h.from, k.to); to = omega (arith, ints, h.to, k.from) }

-- ---- quotients
pub parts_le : (a b d : ℕ) → 0 < d → a ≤ b → a / d ≤ b / d
parts_le a b d h k = le-div (a / d) b d h (omega (arith, div-mul-le_self a d))

pub parts_ge : (a d e : ℕ) → 0 < d → d ≤ e → a / e ≤ a / d
parts_ge a d e h k = le-div (a / e) a d h (omega (arith, div-mul-le_self a e, mul-le-mul_left (a / e) k))

-- by a positive number
quotient_le : (x y : ℤ) (d : ℕ) → 0 < d → x ≤ℤ y → int_div x (pos d) ≤ℤ int_div y (pos d)
quotient_le (pos a) (pos b) d h k = omega (arith, ints, parts_le a b d h (omega (arith, ints)))
quotient_le (pos a) (negsuc b) d h k = absurd (omega (arith, ints))
quotient_le (negsuc a) (pos b) d h k = omega (arith, ints)
quotient_le (negsuc a) (negsuc b) d h k = omega (arith, ints, parts_le (suc b) (suc a) d h (omega (arith, ints)))

-- by a negative number
quotient_neg : (x : ℤ) (n : ℕ) → int_div x (negsuc n) ≡ neg_ℤ (int_div x (pos (suc n)))
quotient_neg (pos a) n = refl
quotient_neg (negsuc a) n = sym (neg_ℤ-neg_ℤ (pos (suc a / suc n)))

quotient_by : (x : ℤ) (l y r : ℕ) → 0 < l → l ≤ y → y ≤ r → Between (int_div x (pos l)) (int_div x (pos r)) (int_div x (pos y))
quotient_by (pos a) l y r h k m =
    let first = parts_ge a l y h k in
    let second = parts_ge a y r (omega arith) m in
    record { least = omega (arith, ints, clamps); most = omega (arith, ints, clamps) }
quotient_by (negsuc a) l y r h k m =
    let first = parts_ge (suc a) l y h k in
    let second = parts_ge (suc a) y r (omega arith) m in
    record { least = omega (arith, ints, clamps); most = omega (arith, ints, clamps) }

negated : (p q m : ℤ) → Between p q m → Between (neg_ℤ q) (neg_ℤ p) (neg_ℤ m)
negated p q m h = record { least = omega (arith, ints, clamps); most = omega (arith, ints, clamps) }

-- one sign of the divisors
by_divisors : (x l y r : ℤ) → (pos 1 ≤ℤ l) ⊎ (r ≤ℤ negsuc 0) → l ≤ℤ y → y ≤ℤ r → Between (int_div x l) (int_div x r) (int_div x y)
by_divisors x (pos l) (pos y) (pos r) (inl s) h k = quotient_by x l y r (omega (arith, ints)) (omega (arith, ints)) (omega (arith, ints))
by_divisors x (negsuc l) (negsuc y) (negsuc r) (inr s) h k =
    rw (quotient_neg x l, quotient_neg x y, quotient_neg x r)
    (negated _ _ _ (quotient_by x (suc r) (suc y) (suc l) (omega arith) (omega (arith, ints)) (omega (arith, ints))))
by_divisors x l y r (inl s) h k = absurd (omega (arith, ints))
by_divisors x l y r (inr s) h k = absurd (omega (arith, ints))

by_dividends : (a x b y : ℤ) → (pos 1 ≤ℤ y) ⊎ (y ≤ℤ negsuc 0) → a ≤ℤ x → x ≤ℤ b → Between (int_div a y) (int_div b y) (int_div x y)
by_dividends a x b (pos y) s h k =
    let some : 0 < y = elim s [ inl l ↦ omega (arith, ints) | inr l ↦ absurd (omega (arith, ints)) ] in
    let first = quotient_le a x y some h in
    let second = quotient_le x b y some k in
    record { least = omega (arith, ints, clamps); most = omega (arith, ints, clamps) }
by_dividends a x b (negsuc y) s h k =
    let first = quotient_le a x (suc y) (omega arith) h in
    let second = quotient_le x b (suc y) (omega arith) k in
    rw (quotient_neg a y, quotient_neg b y, quotient_neg x y)
    (record { least = omega (arith, ints, clamps); most = omega (arith, ints, clamps) })

pub corners_sound : (a d : Range) (x y : ℤ) → Holds a x → Holds d y → HasOneSign d → Holds (corner_quotients a d) (int_div x y)
corners_sound a d x y h k s =
    between_hull _ _ _ _ (int_div a.lo y) (int_div a.hi y) _
    (by_divisors a.lo d.lo y d.hi s k.from k.to)
    (by_divisors a.hi d.lo y d.hi s k.from k.to)
    (by_dividends a.lo x a.hi y (elim s [ inl l ↦ inl (omega (arith, ints, k.from)) | inr l ↦ inr (omega (arith, ints, k.to)) ]) h.from h.to)
