-- The order of classes, and joins.
use Rattle.std.specs.Prelude.{◌≡◌, ◌⊎◌, ◌↔◌, ℕ, zero, suc, ◌<◌, ◌≤◌, ◌^◌, Bool, true, false, not, ℤ, pos, negsuc, ◌+ℤ◌, ◌-ℤ◌, ◌*ℤ◌, unsigned_abs}
use Rattle.std.proofs.Common.{arith, ◌∙◌, ap, refl, subst, inl, inr}
use Rattle.std.proofs.lemmas.Int.{ints}
use Rattle.std.proofs.lemmas.Nat.Gcd.{le_of_dvd}
use Rattle.pk_congr.specs.Classes.{Class, IsMember, IsReduced, gcd, int_gcd, divides, has_member, is_within, are_apart, joined}
use Rattle.pk_congr.specs.Laws.{Within, TestsAreRight, AreNear, JoinIsLeast}
use Rattle.pk_congr.proofs.Multiples.{Multiple, self_multiple, difference_multiple, negative_multiple, times_multiple, multiple_trans, multiple_test, test_multiple}
use Rattle.pk_ctypes.proofs.Whole.{times_sum}
use Rattle.pk_congr.proofs.Gcd.{euclid, gcd_left, gcd_right, gcd_greatest, combined, gcd_zero, gcd_some, gcd_some_right}
use Rattle.pk_ctypes.proofs.Small.{both_true, and_true}
use Rattle.pk_congr.proofs.Numbers.{apart_by, is_member, rest_member, two_members, next_member, by_test, class_only, class_if_has, class_if_is}

pub member : (c : Class) (x : ℤ) → (has_member c x ≡ true) ↔ IsMember c x
member c x = (λ e. is_member c x (test_multiple c.m (x -ℤ c.r) e), λ h. multiple_test c.m (x -ℤ c.r) (apart_by c x h))

pub within : (a b : Class) → is_within a b ≡ true → Within a b
within a b e x h =
    let tests = both_true (divides b.m a.m) (divides b.m (a.r -ℤ b.r)) e in
    let first = multiple_trans b.m a.m (x -ℤ a.r) (test_multiple b.m a.m tests.0) (apart_by a x h) in
    next_member b a.r x (is_member b a.r (test_multiple b.m (a.r -ℤ b.r) tests.1)) first

-- the rest, and the rest and the modulus together, are members
modulus_member : (c : Class) → IsMember c (c.r +ℤ c.m)
modulus_member c = let s = self_multiple c.m in is_member c (c.r +ℤ c.m) (s.0, omega (arith, ints, s.1))

pub within_moduli : (a b : Class) → Within a b → Multiple b.m a.m
within_moduli a b h =
    let d = two_members b (a.r +ℤ a.m) a.r (h (a.r +ℤ a.m) (modulus_member a)) (h a.r (rest_member a)) in
    (d.0, omega (arith, ints, d.1))

pub within_test : (a b : Class) → Within a b → is_within a b ≡ true
within_test a b h =
    and_true (divides b.m a.m) (divides b.m (a.r -ℤ b.r))
    (multiple_test b.m a.m (within_moduli a b h))
    (multiple_test b.m (a.r -ℤ b.r) (apart_by b a.r (h a.r (rest_member a))))

not_within : (a b : Class) → is_within a b ≡ false → (x : ℤ) × IsMember a x × (IsMember b x → ⊥)
not_within a b e = first (by_test (divides b.m (a.r -ℤ b.r)))
  where
    first : (divides b.m (a.r -ℤ b.r) ≡ true) ⊎ (divides b.m (a.r -ℤ b.r) ≡ false) → (x : ℤ) × IsMember a x × (IsMember b x → ⊥)
    first (inr f) = (a.r, rest_member a, λ h. let test = multiple_test b.m (a.r -ℤ b.r) (apart_by b a.r h) in absurd (cc))
    first (inl f) = (
      a.r +ℤ a.m,
      modulus_member a,
      λ h.
          let d = two_members b (a.r +ℤ a.m) a.r h (is_member b a.r (test_multiple b.m (a.r -ℤ b.r) f)) in
          let test = multiple_test b.m a.m (d.0, omega (arith, ints, d.1)) in
          let yes = and_true (divides b.m a.m) (divides b.m (a.r -ℤ b.r)) test f in
          absurd (cc),
    )

common_divisor : (a b : Class) (x : ℤ) → IsMember a x → IsMember b x → Multiple (int_gcd a.m b.m) (a.r -ℤ b.r)
common_divisor a b x h k =
    let g = int_gcd a.m b.m in
    let left = multiple_trans g a.m (x -ℤ a.r) (gcd_left a.m b.m) (apart_by a x h) in
    let right = multiple_trans g b.m (x -ℤ b.r) (gcd_right a.m b.m) (apart_by b x k) in
    let d = difference_multiple g (x -ℤ b.r) (x -ℤ a.r) right left in
    (d.0, omega (arith, ints, d.1))

pub apart : (a b : Class) → are_apart a b ≡ true → (x : ℤ) → IsMember a x → IsMember b x → ⊥
apart a b e x h k =
    let test = multiple_test (int_gcd a.m b.m) (a.r -ℤ b.r) (common_divisor a b x h k) in
    let turned = ap not test in
    absurd (cc)

pub abs_multiple : (m : ℤ) → Multiple m (pos (unsigned_abs m))
abs_multiple (pos n) = self_multiple (pos n)
abs_multiple (negsuc n) = let s = negative_multiple (negsuc n) (negsuc n) (self_multiple (negsuc n)) in (s.0, omega (arith, ints, s.1))

pub multiple_of_abs : (m z : ℤ) → Multiple m z → Multiple (pos (unsigned_abs m)) z
multiple_of_abs (pos n) z h = h
multiple_of_abs (negsuc n) z h =
    let s = negative_multiple (pos (suc n)) (pos (suc n)) (self_multiple (pos (suc n))) in
    multiple_trans (pos (suc n)) (negsuc n) z (s.0, omega (arith, ints, s.1)) h

pub test_apart : (a b : Class) → are_apart a b ≡ false → divides (int_gcd a.m b.m) (a.r -ℤ b.r) ≡ true
test_apart a b e = by (divides (int_gcd a.m b.m) (a.r -ℤ b.r)) e
  where
    by : (t : Bool) → not t ≡ false → t ≡ true
    by true e = refl
    by false e = absurd (cc)

pub not_apart : (a b : Class) → are_apart a b ≡ false → (x : ℤ) × IsMember a x × IsMember b x
not_apart a b e =
    let m = pos (unsigned_abs a.m) in
    let n = pos (unsigned_abs b.m) in
    let k = test_multiple (int_gcd a.m b.m) (a.r -ℤ b.r) (test_apart a b e) in
    let c = combined (unsigned_abs a.m) (unsigned_abs b.m) in
    let split : a.r -ℤ b.r ≡ (k.0 *ℤ (c.0 *ℤ m)) +ℤ (k.0 *ℤ (c.1 *ℤ n)) = k.1 ∙ ap (λ x. k.0 *ℤ x) c.2 ∙ times_sum (c.0 *ℤ m) (c.1 *ℤ n) k.0 in
    let left = times_multiple a.m (c.0 *ℤ m) k.0 (times_multiple a.m m c.0 (abs_multiple a.m)) in
    let right = times_multiple b.m (c.1 *ℤ n) k.0 (times_multiple b.m n c.1 (abs_multiple b.m)) in
    let back = negative_multiple a.m (k.0 *ℤ (c.0 *ℤ m)) left in
    let x = a.r -ℤ k.0 *ℤ (c.0 *ℤ m) in
    (x, is_member a x (back.0, omega (arith, ints, back.1)), is_member b x (right.0, omega (arith, ints, right.1, split)))

pub tests : TestsAreRight
tests = record { member = member; within = within; not_within = not_within; apart = apart; not_apart = not_apart }

-- joins
join_left : (a b : Class) → Within a (joined a b)
join_left a b x h =
    let g = int_gcd a.m b.m in
    let d = int_gcd g (a.r -ℤ b.r) in
    class_if_has d a.r x (multiple_trans d g (x -ℤ a.r) (gcd_left g (a.r -ℤ b.r)) (multiple_trans g a.m (x -ℤ a.r) (gcd_left a.m b.m) (apart_by a x h)))

join_right : (a b : Class) → Within b (joined a b)
join_right a b x h =
    let g = int_gcd a.m b.m in
    let d = int_gcd g (a.r -ℤ b.r) in
    let first = multiple_trans d g (x -ℤ b.r) (gcd_left g (a.r -ℤ b.r)) (multiple_trans g b.m (x -ℤ b.r) (gcd_right a.m b.m) (apart_by b x h)) in
    let s = difference_multiple d (x -ℤ b.r) (a.r -ℤ b.r) first (gcd_right g (a.r -ℤ b.r)) in
    class_if_has d a.r x (s.0, omega (arith, ints, s.1))

pub gcd_le_left : (a b : ℕ) → 0 < a → gcd a b ≤ a
gcd_le_left a b h = le_of_dvd h (euclid a b).0

pub gcd_le_right : (a b : ℕ) → 0 < b → gcd a b ≤ b
gcd_le_right a b h = le_of_dvd h (euclid a b).1

pub gcd_below : (a b n : ℕ) → a < n → b < n → gcd a b < n
gcd_below a zero n h k = let e = gcd_zero a zero refl in omega arith
gcd_below a (suc b) n h k = let l = gcd_le_right a (suc b) (omega arith) in omega arith

pub join_held : (a b : Class) → IsReduced a.m a.r → IsReduced b.m b.r → AreNear a b → unsigned_abs (int_gcd (int_gcd a.m b.m) (a.r -ℤ b.r)) < 2 ^ 127
join_held a b h k near = by (unsigned_abs a.m) (unsigned_abs b.m) refl refl
  where
    by : (m n : ℕ) → unsigned_abs a.m ≡ m → unsigned_abs b.m ≡ n → gcd (gcd (unsigned_abs a.m) (unsigned_abs b.m)) (unsigned_abs (a.r -ℤ b.r)) < 2 ^ 127
    by (suc m) n e f =
        let some = gcd_some (unsigned_abs a.m) (unsigned_abs b.m) (omega arith) in
        let first = gcd_le_left (unsigned_abs a.m) (unsigned_abs b.m) (omega arith) in
        let second = gcd_le_left (gcd (unsigned_abs a.m) (unsigned_abs b.m)) (unsigned_abs (a.r -ℤ b.r)) some in
        omega (arith, first, second, h.modulus_held)
    by zero (suc n) e f =
        let some = gcd_some_right (unsigned_abs a.m) (unsigned_abs b.m) (omega arith) in
        let first = gcd_le_right (unsigned_abs a.m) (unsigned_abs b.m) (omega arith) in
        let second = gcd_le_left (gcd (unsigned_abs a.m) (unsigned_abs b.m)) (unsigned_abs (a.r -ℤ b.r)) some in
        omega (arith, first, second, k.modulus_held)
    by zero zero e f =
        let left : a.m ≡ pos 0 = omega (arith, ints) in
        let right : b.m ≡ pos 0 = omega (arith, ints) in
        gcd_below (gcd (unsigned_abs a.m) (unsigned_abs b.m)) (unsigned_abs (a.r -ℤ b.r)) (2 ^ 127)
        (gcd_below (unsigned_abs a.m) (unsigned_abs b.m) (2 ^ 127) h.modulus_held k.modulus_held) (near left right)

join_least : (a b c : Class) → IsReduced a.m a.r → IsReduced b.m b.r → AreNear a b → Within a c → Within b c → Within (joined a b) c
join_least a b c h k near l r x member =
    let g = int_gcd a.m b.m in
    let d = int_gcd g (a.r -ℤ b.r) in
    let is = class_if_is d a.r (join_held a b h k near) h.rest_held in
    let off = class_only d a.r x (subst (λ (j : Class). IsMember j x) is member) in
    let moduli = gcd_greatest a.m b.m c.m (within_moduli a c l) (within_moduli b c r) in
    let rests = two_members c a.r b.r (l a.r (rest_member a)) (r b.r (rest_member b)) in
    next_member c a.r x (l a.r (rest_member a)) (multiple_trans c.m d (x -ℤ a.r) (gcd_greatest g (a.r -ℤ b.r) c.m moduli rests) off)

pub join_is_least : JoinIsLeast
join_is_least = record { left = join_left; right = join_right; least = join_least }
