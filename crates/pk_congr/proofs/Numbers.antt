-- Members of classes, as numbers that differ by a multiple.
use Rattle.std.specs.Prelude.{◌≡◌, ◌⊎◌, zero, suc, ◌<◌, ◌^◌, ◌&&◌, Bool, true, false, if◌then◌else◌, ℤ, pos, negsuc, ◌+ℤ◌, ◌-ℤ◌, ◌*ℤ◌, ◌≤ℤ◌, neg_ℤ, unsigned_abs}
use Rattle.std.specs.Int.{int_rem_euclid}
use Rattle.std.specs.Ordering.{int_eq}
use Rattle.std.proofs.Common.{arith, ap, refl, sym, subst, inl, inr}
use Rattle.std.proofs.lemmas.Int.{ints}
use Rattle.std.proofs.lemmas.Bool.Decides.{Decides-int_eq, nat_tests}
use Rattle.pk_ctypes.proofs.Whole.{rest_split, rest_from, rest_below}
use Rattle.pk_ctypes.proofs.Small.{and_true}
use Rattle.pk_ctypes.proofs.Values.{zero_test, not_zero_test}
use Rattle.pk_congr.specs.Classes.{Class, IsMember, IsReduced, is_held, every, rest_modulo, class_of, class_if}
use Rattle.pk_congr.proofs.Multiples.{Multiple, zero_multiple, sum_multiple, difference_multiple, neg_product}

pub apart_by : (c : Class) (x : ℤ) → IsMember c x → Multiple c.m (x -ℤ c.r)
apart_by c x h = (h.0, omega (arith, ints, h.1))

pub is_member : (c : Class) (x : ℤ) → Multiple c.m (x -ℤ c.r) → IsMember c x
is_member c x h = (h.0, omega (arith, ints, h.1))

pub rest_member : (c : Class) → IsMember c c.r
rest_member c = is_member c c.r (let z = zero_multiple c.m in (z.0, omega (arith, ints, z.1)))

pub two_members : (c : Class) (x y : ℤ) → IsMember c x → IsMember c y → Multiple c.m (x -ℤ y)
two_members c x y h k =
    let d = difference_multiple c.m (x -ℤ c.r) (y -ℤ c.r) (apart_by c x h) (apart_by c y k) in
    (d.0, omega (arith, ints, d.1))

pub next_member : (c : Class) (x y : ℤ) → IsMember c x → Multiple c.m (y -ℤ x) → IsMember c y
next_member c x y h k =
    let s = sum_multiple c.m (x -ℤ c.r) (y -ℤ x) (apart_by c x h) k in
    is_member c y (s.0, omega (arith, ints, s.1))

pub every_member : (x : ℤ) → IsMember every x
every_member x = (x, omega (arith, ints))

pub by_test : (b : Bool) → (b ≡ true) ⊎ (b ≡ false)
by_test true = inl refl
by_test false = inr refl

pub tested_zero : (z : ℤ) → int_eq z (pos 0) ≡ true → z ≡ pos 0
tested_zero z e = by_zero (Decides-int_eq z (pos 0))
  where
    by_zero : (int_eq z (pos 0) ≡ true → z ≡ pos 0) × (z ≡ pos 0 → int_eq z (pos 0) ≡ true) → z ≡ pos 0
    by_zero d = d.0 e

pub tested_some : (z : ℤ) → int_eq z (pos 0) ≡ false → z ≡ pos 0 → ⊥
tested_some z e f = let test = zero_test z f in absurd (cc)

-- a rest differs by a multiple
pub euclid_differs : (m z : ℤ) → (m ≡ pos 0 → ⊥) → Multiple m (z -ℤ int_rem_euclid z m)
euclid_differs (pos zero) z h = absurd (h refl)
euclid_differs (pos (suc n)) z h = let s = rest_split z (suc n) (omega arith) in (s.0, omega (arith, ints, s.1))
euclid_differs (negsuc n) z h =
    let s = rest_split z (suc n) (omega arith) in
    let turned = neg_product s.0 (negsuc n) in
    (neg_ℤ s.0, same z s.0 (int_rem_euclid z (negsuc n)) refl s.1 turned)
  where
    same : (z q r : ℤ) → r ≡ int_rem_euclid z (negsuc n) → z ≡ q *ℤ pos (suc n) +ℤ int_rem_euclid z (pos (suc n)) → neg_ℤ q *ℤ negsuc n ≡ neg_ℤ (q *ℤ negsuc n) → z -ℤ r ≡ neg_ℤ q *ℤ negsuc n
    same (pos z) (pos q) r e f g = omega (arith, ints)
    same (pos z) (negsuc q) r e f g = omega (arith, ints)
    same (negsuc z) (pos q) r e f g = omega (arith, ints)
    same (negsuc z) (negsuc q) r e f g = omega (arith, ints)

pub rest_differs : (m z : ℤ) → Multiple m (z -ℤ rest_modulo z m)
rest_differs m z = by (int_eq m (pos 0)) refl
  where
    by : (b : Bool) → int_eq m (pos 0) ≡ b → Multiple m (z -ℤ (if b then z else int_rem_euclid z m))
    by true e = let none = zero_multiple m in (none.0, omega (arith, ints, none.1))
    by false e = euclid_differs m z (tested_some m e)

pub class_has : (m r x : ℤ) → Multiple m (x -ℤ r) → IsMember (class_of m r) x
class_has m r x h =
    let s = sum_multiple m (x -ℤ r) (r -ℤ rest_modulo r m) h (rest_differs m r) in
    is_member (class_of m r) x (s.0, omega (arith, ints, s.1))

pub class_only : (m r x : ℤ) → IsMember (class_of m r) x → Multiple m (x -ℤ r)
class_only m r x h =
    let s = difference_multiple m (x -ℤ rest_modulo r m) (r -ℤ rest_modulo r m) (apart_by (class_of m r) x h) (rest_differs m r) in
    (s.0, omega (arith, ints, s.1))

pub class_if_has : (m r x : ℤ) → Multiple m (x -ℤ r) → IsMember (class_if m r) x
class_if_has m r x h = by (is_held m && is_held r)
  where
    by : (b : Bool) → IsMember (if b then class_of m r else every) x
    by true = class_has m r x h
    by false = every_member x

pub held_test : (z : ℤ) → unsigned_abs z < 2 ^ 127 → is_held z ≡ true
held_test z h = grind (arith, nat_tests)

pub test_held : (z : ℤ) → is_held z ≡ true → unsigned_abs z < 2 ^ 127
test_held z e = grind (arith, nat_tests)

pub not_held : (z : ℤ) → is_held z ≡ false → unsigned_abs z < 2 ^ 127 → ⊥
not_held z e h = let test = held_test z h in absurd (cc)

pub class_if_is : (m r : ℤ) → unsigned_abs m < 2 ^ 127 → unsigned_abs r < 2 ^ 127 → class_if m r ≡ class_of m r
class_if_is m r h k =
    let both = and_true (is_held m) (is_held r) (held_test m h) (held_test r k) in
    ap (λ b. if b then class_of m r else every) both

pub rest_of_zero : (r m : ℤ) → m ≡ pos 0 → rest_modulo r m ≡ r
rest_of_zero r m e = let test = zero_test m e in ap (λ b. if b then r else int_rem_euclid r m) test

pub rest_of_some : (r m : ℤ) → (m ≡ pos 0 → ⊥) → rest_modulo r m ≡ int_rem_euclid r m
rest_of_some r m h = let test = not_zero_test m h in ap (λ b. if b then r else int_rem_euclid r m) test

pub class_reduced : (m r : ℤ) → pos 0 ≤ℤ m → unsigned_abs m < 2 ^ 127 → unsigned_abs r < 2 ^ 127 → IsReduced m (rest_modulo r m)
class_reduced (pos zero) r h k l = subst (IsReduced (pos 0)) (sym (rest_of_zero r (pos 0) refl)) (record { from = h; rest = inl refl; modulus_held = k; rest_held = l })
class_reduced (negsuc n) r h k l = absurd (omega (arith, ints))
class_reduced (pos (suc n)) r h k l =
    let from = rest_from r (suc n) (omega arith) in
    let below = rest_below r (suc n) (omega arith) in
    subst (IsReduced (pos (suc n))) (sym (rest_of_some r (pos (suc n)) (λ e. absurd (omega (arith, ints))))) (record { from = h; rest = inr (from, below); modulus_held = k; rest_held = omega (arith, ints) })
