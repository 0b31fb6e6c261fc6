-- The members next to a number.
use Rattle.std.specs.Prelude.{◌≡◌, zero, suc, ◌<◌, Bool, true, false, if◌then◌else◌, ℤ, pos, negsuc, ◌+ℤ◌, ◌-ℤ◌, ◌≤ℤ◌, ◌<ℤ◌, int_le, Option, Some, None}
use Rattle.std.specs.Int.{int_rem_euclid}
use Rattle.std.specs.Ordering.{int_eq}
use Rattle.std.proofs.Common.{arith, refl, subst}
use Rattle.std.proofs.lemmas.Int.{ints, by_lt_z}
use Rattle.std.proofs.lemmas.Nat.Gcd.{le_of_dvd}
use Rattle.pk_ctypes.proofs.Whole.{rest_from, rest_below}
use Rattle.pk_ctypes.proofs.Values.{le_test, test_le}
use Rattle.pk_congr.specs.Classes.{Class, IsMember, next_up_of, next_down_of}
use Rattle.pk_congr.specs.Laws.{IsNextUp, IsNextDown, NextMembersAreRight, NarrowingKeeps}
use Rattle.pk_congr.proofs.Multiples.{Multiple, negative_multiple, dvd_from_multiple}
use Rattle.pk_congr.proofs.Numbers.{is_member, rest_member, two_members, tested_zero, tested_some, euclid_differs}
use Rattle.pk_congr.proofs.Meets.{same_constant}

-- a multiple of m above 0 is not less than m
pub not_less : (m d : ℤ) → pos 0 ≤ℤ m → Multiple m d → pos 0 <ℤ d → m ≤ℤ d
not_less m (negsuc n) f h k = absurd (omega (arith, ints))
not_less m (pos n) f h k =
    let some : 0 < n = omega (arith, ints) in
    let least = le_of_dvd some (dvd_from_multiple m (pos n) h) in
    omega (arith, ints)

pub rest_bounds : (z m : ℤ) → pos 0 ≤ℤ m → (m ≡ pos 0 → ⊥) → (pos 0 ≤ℤ int_rem_euclid z m) × (int_rem_euclid z m <ℤ m)
rest_bounds z (pos zero) f h = absurd (h refl)
rest_bounds z (pos (suc n)) f h = (rest_from z (suc n) (omega arith), rest_below z (suc n) (omega arith))
rest_bounds z (negsuc n) f h = absurd (omega (arith, ints))

some_is : (y z : ℤ) → (let l : Option ℤ = Some y in l ≡ Some z) → y ≡ z
some_is y z e = cc

next_up_some : (c : Class) (x : ℤ) → pos 0 ≤ℤ c.m → (c.m ≡ pos 0 → ⊥) → IsNextUp c x (x +ℤ int_rem_euclid (c.r -ℤ x) c.m)
next_up_some c x f h =
    let rest = int_rem_euclid (c.r -ℤ x) c.m in
    let bounds = rest_bounds (c.r -ℤ x) c.m f h in
    let d = negative_multiple c.m ((c.r -ℤ x) -ℤ rest) (euclid_differs c.m (c.r -ℤ x) h) in
    let in_c = is_member c (x +ℤ rest) (d.0, omega (arith, ints, d.1)) in
    record {
      member = in_c;
      above = omega (arith, ints);
      least = λ z k l. by_lt_z z (x +ℤ rest)
          (λ less. let far = not_less c.m ((x +ℤ rest) -ℤ z) f (two_members c (x +ℤ rest) z in_c k) (omega (arith, ints)) in absurd (omega (arith, ints)))
          (λ more. more);
    }

next_down_some : (c : Class) (x : ℤ) → pos 0 ≤ℤ c.m → (c.m ≡ pos 0 → ⊥) → IsNextDown c x (x -ℤ int_rem_euclid (x -ℤ c.r) c.m)
next_down_some c x f h =
    let rest = int_rem_euclid (x -ℤ c.r) c.m in
    let bounds = rest_bounds (x -ℤ c.r) c.m f h in
    let d = euclid_differs c.m (x -ℤ c.r) h in
    let in_c = is_member c (x -ℤ rest) (d.0, omega (arith, ints, d.1)) in
    record {
      member = in_c;
      below = omega (arith, ints);
      greatest = λ z k l. by_lt_z (x -ℤ rest) z
          (λ less. let far = not_less c.m (z -ℤ (x -ℤ rest)) f (two_members c z (x -ℤ rest) k in_c) (omega (arith, ints)) in absurd (omega (arith, ints)))
          (λ more. more);
    }

up : (c : Class) (x y : ℤ) → pos 0 ≤ℤ c.m → next_up_of c x ≡ Some y → IsNextUp c x y
up c x y f e = by (int_eq c.m (pos 0)) (int_le x c.r) refl refl e
  where
    by : (p q : Bool) → int_eq c.m (pos 0) ≡ p → int_le x c.r ≡ q → (if p then (if q then Some c.r else None) else Some (x +ℤ int_rem_euclid (c.r -ℤ x) c.m)) ≡ Some y → IsNextUp c x y
    by true true g h e = subst (IsNextUp c x) (some_is c.r y e) (record {
      member = rest_member c;
      above = test_le x c.r h;
      least = λ z k l. let same = same_constant c z c.r (tested_zero c.m g) k (rest_member c) in omega (arith, ints);
    })
    by true false g h e = absurd (cc)
    by false q g h e = subst (IsNextUp c x) (some_is _ y e) (next_up_some c x f (tested_some c.m g))

no_up : (c : Class) (x : ℤ) → next_up_of c x ≡ None → (z : ℤ) → IsMember c z → x ≤ℤ z → ⊥
no_up c x e z k l = by (int_eq c.m (pos 0)) (int_le x c.r) refl refl e
  where
    by : (p q : Bool) → int_eq c.m (pos 0) ≡ p → int_le x c.r ≡ q → (if p then (if q then Some c.r else None) else Some (x +ℤ int_rem_euclid (c.r -ℤ x) c.m)) ≡ None → ⊥
    by true true g h e = absurd (cc)
    by true false g h e =
        let same = same_constant c z c.r (tested_zero c.m g) k (rest_member c) in
        let test = le_test x c.r (omega (arith, ints)) in
        absurd (cc)
    by false q g h e = absurd (cc)

down : (c : Class) (x y : ℤ) → pos 0 ≤ℤ c.m → next_down_of c x ≡ Some y → IsNextDown c x y
down c x y f e = by (int_eq c.m (pos 0)) (int_le c.r x) refl refl e
  where
    by : (p q : Bool) → int_eq c.m (pos 0) ≡ p → int_le c.r x ≡ q → (if p then (if q then Some c.r else None) else Some (x -ℤ int_rem_euclid (x -ℤ c.r) c.m)) ≡ Some y → IsNextDown c x y
    by true true g h e = subst (IsNextDown c x) (some_is c.r y e) (record {
      member = rest_member c;
      below = test_le c.r x h;
      greatest = λ z k l. let same = same_constant c z c.r (tested_zero c.m g) k (rest_member c) in omega (arith, ints);
    })
    by true false g h e = absurd (cc)
    by false q g h e = subst (IsNextDown c x) (some_is _ y e) (next_down_some c x f (tested_some c.m g))

no_down : (c : Class) (x : ℤ) → next_down_of c x ≡ None → (z : ℤ) → IsMember c z → z ≤ℤ x → ⊥
no_down c x e z k l = by (int_eq c.m (pos 0)) (int_le c.r x) refl refl e
  where
    by : (p q : Bool) → int_eq c.m (pos 0) ≡ p → int_le c.r x ≡ q → (if p then (if q then Some c.r else None) else Some (x -ℤ int_rem_euclid (x -ℤ c.r) c.m)) ≡ None → ⊥
    by true true g h e = absurd (cc)
    by true false g h e =
        let same = same_constant c z c.r (tested_zero c.m g) k (rest_member c) in
        let test = le_test c.r x (omega (arith, ints)) in
        absurd (cc)
    by false q g h e = absurd (cc)

pub next_members : NextMembersAreRight
next_members = record { up = up; no_up = no_up; down = down; no_down = no_down }

pub narrowing : NarrowingKeeps
narrowing h n x p q = by (int_eq h.m (pos 1))
  where
    by : (b : Bool) → IsMember (if b then n else h) x
    by true = q
    by false = p
