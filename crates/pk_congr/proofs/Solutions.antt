-- Linear congruences.
use Rattle.std.specs.Prelude.{◌≡◌, ℕ, zero, suc, ◌+◌, ◌-◌, ◌*◌, ◌/◌, ◌%◌, ◌<◌, ◌≤◌, ◌^◌, false, if◌then◌else◌, ℤ, pos, negsuc, ◌+ℤ◌, ◌-ℤ◌, ◌*ℤ◌, ◌≤ℤ◌, ◌<ℤ◌, unsigned_abs, Option, Some, None}
use Rattle.std.specs.Option.{SomeIff}
use Rattle.std.specs.Int.{w128}
use Rattle.std.proofs.Common.{arith, ◌∙◌, ap, refl, sym, subst, to_z, of_z}
use Rattle.std.proofs.Math.Nat.{mul-div_cancel, mul-le-mul_left, div-le_self, mod-le, mod-eq_of_lt}
use Rattle.std.proofs.Math.IntN.{*ℤ-zero}
use Rattle.std.proofs.lemmas.Int.{ints}
use Rattle.std.proofs.lemmas.Nat.Gcd.{le_of_dvd}
use Rattle.std.proofs.lemmas.Nat.{mod_below, div_below}
use Rattle.pk_ctypes.specs.Types.{IsEqualModulo}
use Rattle.pk_ctypes.proofs.Whole.{sum_times}
use Rattle.pk_congr.specs.Classes.{Class, IsMember, IsReduced, gcd, int_gcd, int_lcm, are_apart, class_of, class_if, first_in, met_of, rest_modulo}
use Rattle.pk_congr.proofs.Multiples.{Multiple, assoc, self_multiple, sum_multiple, negative_multiple, test_multiple, times_multiple, difference_times, dvd_from_multiple, mod_from_multiple}
use Rattle.pk_congr.proofs.Gcd.{gcd_left, gcd_right, gcd_greatest, gcd_step, gcd_zero, gcd_some}
use Rattle.pk_congr.proofs.Meets.{whole_part, common_found, common_apart, lcm_by_left, met_of_first}
use Rattle.pk_congr.proofs.Order.{test_apart}
use Rattle.pk_congr.proofs.Numbers.{held_test, class_if_is, rest_of_zero, rest_of_some}
use Rattle.pk_congr.proofs.Held.{same_rest}

pub one_modulus : (m n : ℕ) → gcd m n ≡ 1 → m % n ≡ 0 → n ≡ 1
one_modulus m n h e = sym (gcd_zero n (m % n) e) ∙ sym (gcd_step m n) ∙ h

pub smaller_product : (m n p : ℕ) → m * n < p → n * (m % n) < p
smaller_product m n p h = let l = mul-le-mul_left n (mod-le m n) in omega arith

-- what is left to the next multiple
to_next : (d a : ℕ) → 0 < a → (j : ℕ) × (d + (a - d % a) % a ≡ j * a)
to_next d a h = by (d % a) refl
  where
    small : d % a < a
    small = mod_below d a h

    by : (r : ℕ) → d % a ≡ r → (j : ℕ) × (d + (a - d % a) % a ≡ j * a)
    by zero e = (d / a, (let gone : (a - d % a) % a ≡ 0 = ap (λ v. (a - v) % a) e ∙ self a h in omega arith))
      where
        self : (a : ℕ) → 0 < a → (a - 0) % a ≡ 0
        self a h =
            let whole : a - 0 ≡ a = omega arith in
            ap (λ v. v % a) whole ∙ mod_from_multiple (pos a) (pos a) (self_multiple (pos a))
    by (suc r) e = (suc (d / a), (let same : (a - d % a) % a ≡ a - d % a = less (a - d % a) a (omega arith) in omega arith))
      where
        less : (v a : ℕ) → v < a → v % a ≡ v
        less v a h = mod-eq_of_lt h

pub solved : (m n d u : ℕ) → 0 < m % n → (k : ℕ) × (n * u ≡ (m % n - d % (m % n)) % (m % n) + (m % n) * k) → (x : ℕ) × (m * ((d + n * u) / (m % n)) ≡ d + n * x)
solved m n d u h k =
    let a = m % n in
    let j = to_next d a h in
    let t = j.0 + k.0 in
    let all : d + n * u ≡ t * a = omega (arith, j.1, k.1) in
    let quotient : (d + n * u) / a ≡ t = ap (λ v. v / a) all ∙ mul-div_cancel t h in
    let split : m ≡ n * (m / n) + a = omega arith in
    let product = ap (λ v. v * t) split in
    (m / n * t + u, ap (λ v. m * v) quotient ∙ omega arith)

-- numbers divided by their greatest common divisor have none
pub coprime : (m n g : ℕ) → 0 < m → g ≡ gcd m n → gcd (m / g) (n / g) ≡ 1
coprime m n g h e = one (gcd (m / g) (n / g)) refl
  where
    some : 0 < g
    some = let s = gcd_some m n h in omega arith

    left : m / g * g ≡ m
    left = whole_part m g some (subst (λ (v : ℕ). Multiple (pos v) (pos m)) (sym e) (gcd_left (pos m) (pos n)))

    right : n / g * g ≡ n
    right = whole_part n g some (subst (λ (v : ℕ). Multiple (pos v) (pos n)) (sym e) (gcd_right (pos m) (pos n)))

    part : (x k : ℕ) → Multiple (pos k) (pos x) → Multiple (pos (k * g)) (pos (x * g))
    part x k d = (d.0, ap (λ v. v *ℤ pos g) d.1 ∙ assoc d.0 (pos k) (pos g))

    one : (k : ℕ) → gcd (m / g) (n / g) ≡ k → k ≡ 1
    one zero f =
        let d = gcd_left (pos (m / g)) (pos (n / g)) in
        let none : m / g ≡ 0 = positive_part (m / g) (n / g) f in
        absurd (omega (arith, left, ap (λ v. v * g) none))
      where
        positive_part : (x y : ℕ) → gcd x y ≡ 0 → x ≡ 0
        positive_part zero y f = refl
        positive_part (suc x) y f = let s = gcd_some (suc x) y (omega arith) in absurd (omega arith)
    one (suc k) f =
        let first = subst (λ (v : ℕ). Multiple (pos v) (pos (m / g))) f (gcd_left (pos (m / g)) (pos (n / g))) in
        let second = subst (λ (v : ℕ). Multiple (pos v) (pos (n / g))) f (gcd_right (pos (m / g)) (pos (n / g))) in
        let in_m = subst (λ (v : ℕ). Multiple (pos (suc k * g)) (pos v)) left (part (m / g) (suc k) first) in
        let in_n = subst (λ (v : ℕ). Multiple (pos (suc k * g)) (pos v)) right (part (n / g) (suc k) second) in
        let in_g = subst (λ (v : ℕ). Multiple (pos (suc k * g)) (pos v)) (sym e) (gcd_greatest (pos m) (pos n) (pos (suc k * g)) in_m in_n) in
        let least : suc k * g ≤ g = le_of_dvd some (dvd_from_multiple (pos (suc k * g)) (pos g) in_g) in
        small k least
      where
        small : (k : ℕ) → suc k * g ≤ g → suc k ≡ 1
        small zero l = refl
        small (suc k) l = absurd (omega (arith, some))

pub part_some : (m n g : ℕ) → 0 < m → g ≡ gcd m n → (0 < g) × (m / g * g ≡ m)
part_some m n g h e =
    let some : 0 < g = let s = gcd_some m n h in omega arith in
    (some, whole_part m g some (subst (λ (v : ℕ). Multiple (pos v) (pos m)) (sym e) (gcd_left (pos m) (pos n))))

pub part_right : (m n g : ℕ) → 0 < m → g ≡ gcd m n → n / g * g ≡ n
part_right m n g h e =
    let some : 0 < g = let s = gcd_some m n h in omega arith in
    whole_part n g some (subst (λ (v : ℕ). Multiple (pos v) (pos n)) (sym e) (gcd_right (pos m) (pos n)))

-- the smaller problem of the moduli's parts
pub apart_below : (n g v : ℕ) → 0 < g → n / g * g ≡ n → v < n → v / g < n / g
apart_below n g v h e l = div_below v g (n / g) h (omega arith)

pub room_below : (m n g : ℕ) → 0 < g → m / g * n < 2 ^ 127 → m / g * (n / g) < 2 ^ 127
room_below m n g h l = let k = mul-le-mul_left (m / g) (div-le_self n g) in omega arith

-- r + m t is less than the least common multiple
pub sum_below : (m n g r t : ℕ) → 0 < g → m / g * g ≡ m → n / g * g ≡ n → r < m → t < n / g → r + m * t < m / g * n
sum_below m n g r t h e f k l =
    let more = mul-le-mul_left m l in
    let product = ap (λ v. v * (n / g)) e in
    let turned = ap (λ v. m / g * v) f in
    omega arith

-- how far r is from s, above a multiple of n
pub distance_is : (r s n : ℕ) → 0 < n → (k : ℤ) × (pos ((s + (n - r % n)) % n) ≡ (pos s -ℤ pos r) +ℤ k *ℤ pos n)
distance_is r s n h =
    let rest = mod_below r n h in
    let q = r / n in
    let p = (s + (n - r % n)) / n in
    let back : s + (n - r % n) + r ≡ s + n + q * n = omega arith in
    let split : s + (n - r % n) ≡ p * n + (s + (n - r % n)) % n = omega arith in (
      pos 1 +ℤ pos q -ℤ pos p,
      (
          let turned = difference_times (pos 1 +ℤ pos q) (pos p) (pos n) in
          let sums = sum_times (pos 1) (pos q) (pos n) in
          omega (arith, ints)),
    )

-- r + m t, where m / g t - d / g is a multiple of n / g, is equal to s modulo n
pub common_right : (m n g r s d t : ℕ) → 0 < g → m / g * g ≡ m → n / g * g ≡ n → d / g * g ≡ d → (u : ℕ) × (m / g * t ≡ d / g + n / g * u) → (k : ℤ) × (pos d ≡ (pos s -ℤ pos r) +ℤ k *ℤ pos n) → IsEqualModulo n (pos s) (pos (r + m * t))
common_right m n g r s d t h e f i u k =
    let left = ap (λ v. v * t) e in
    let product = ap (λ v. v * g) u.1 in
    let right = ap (λ v. v * u.0) f in
    let all : m * t ≡ d + n * u.0 = omega arith in
    let sums = sum_times k.0 (pos u.0) (pos n) in
    (k.0 +ℤ pos u.0, omega (arith, ints, k.1))

-- the distance is a multiple of g
pub distance_multiple : (n g d : ℕ) (a b k : ℤ) → 0 < g → n / g * g ≡ n → Multiple (pos g) (a -ℤ b) → pos d ≡ (a -ℤ b) +ℤ k *ℤ pos n → d / g * g ≡ d
distance_multiple n g d a b k h e m is =
    let in_n : Multiple (pos g) (pos n) = (pos (n / g), ap pos (sym e)) in
    let s = sum_multiple (pos g) (a -ℤ b) (k *ℤ pos n) m (times_multiple (pos g) (pos n) k in_n) in
    whole_part d g h (s.0, is ∙ s.1)

abbrev class_at : ℤ → ℤ → Class
class_at m r = record { m = m; r = r }

pub rest_same : (m x y : ℤ) → pos 0 ≤ℤ m → Multiple m (x -ℤ y) → rest_modulo x m ≡ rest_modulo y m
rest_same (pos zero) x y h k =
    let none : k.0 *ℤ pos 0 ≡ pos 0 = *ℤ-zero k.0 in
    rest_of_zero x (pos 0) refl ∙ omega (arith, ints, k.1) ∙ sym (rest_of_zero y (pos 0) refl)
rest_same (negsuc n) x y h k = absurd (omega (arith, ints))
rest_same (pos (suc n)) x y h k =
    let some : pos (suc n) ≡ pos 0 → ⊥ = λ e. absurd (omega (arith, ints)) in
    rest_of_some x (pos (suc n)) some ∙ same_rest x y (pos (suc n)) (omega (arith, ints)) k ∙ sym (rest_of_some y (pos (suc n)) some)

-- the common numbers of two classes, by one that is found
pub met_same : (a b : Class) (x : ℤ) → pos 0 <ℤ a.m → pos 0 <ℤ b.m → are_apart a b ≡ false → unsigned_abs (int_lcm a.m b.m) < 2 ^ 127 → IsMember a x → IsMember b x → class_of (int_lcm a.m b.m) x ≡ met_of a b
met_same a b x f g h l p q =
    let c = common_found a b h (λ e. absurd (omega (arith, ints))) in
    let s = first_in b a.m (unsigned_abs b.m) a.r in
    let apart = common_apart a b x s (λ e. absurd (omega (arith, ints))) p q c.0 c.1 in
    let test = held_test (int_lcm a.m b.m) l in
    ap (λ (r : ℤ). class_at (int_lcm a.m b.m) r) (rest_same (int_lcm a.m b.m) x s (omega (arith, ints)) apart)
    ∙ sym (ap (λ w. if w then class_of (int_lcm a.m b.m) s else a) test)

-- what the code finds is the meet
pub meets_by : (a b : Class) (r s g : ℕ) → a.r ≡ pos r → b.r ≡ pos s → g ≡ gcd (unsigned_abs a.m) (unsigned_abs b.m) → are_apart a b ≡ false → IsEqualModulo g (pos r) (pos s)
meets_by a b r s g e f h k =
    let d = test_multiple (int_gcd a.m b.m) (a.r -ℤ b.r) (test_apart a b k) in
    let n = negative_multiple (int_gcd a.m b.m) (a.r -ℤ b.r) d in
    (n.0, omega (arith, ints, n.1, ap (λ v. n.0 *ℤ pos v) h))

pub both_same : (a b : Class) (m r n s g l x : ℕ) → a.m ≡ pos m → a.r ≡ pos r → b.m ≡ pos n → b.r ≡ pos s → 0 < m → 0 < n → g ≡ gcd m n → are_apart a b ≡ false → m / g * n < 2 ^ 127 → l ≡ m / g * n → x < 2 ^ 127 → IsEqualModulo m (pos r) (pos x) → IsEqualModulo n (pos s) (pos x) → class_if (pos l) (pos x) ≡ met_of a b
both_same a b m r n s g l x am ar bm bs p q h k room is held left right =
    let parts = part_some m n g p h in
    let divisor = subst (λ (v : ℕ). Multiple (pos v) (pos m)) (sym h) (gcd_left (pos m) (pos n)) in
    let lcm : int_lcm a.m b.m ≡ pos l =
    ap (λ v. int_lcm v b.m) am ∙ ap (int_lcm (pos m)) bm ∙ ap (λ v. pos (m * n / v)) (sym h) ∙ ap pos (lcm_by_left m n g parts.0 divisor) ∙ ap pos (sym is) in
    let in_a : IsMember a (pos x) = (left.0, left.1 ∙ ap (λ v. v +ℤ left.0 *ℤ pos m) (sym ar) ∙ ap (λ v. a.r +ℤ left.0 *ℤ v) (sym am)) in
    let in_b : IsMember b (pos x) = (right.0, right.1 ∙ ap (λ v. v +ℤ right.0 *ℤ pos n) (sym bs) ∙ ap (λ v. b.r +ℤ right.0 *ℤ v) (sym bm)) in
    let small : unsigned_abs (int_lcm a.m b.m) < 2 ^ 127 = omega (arith, ap unsigned_abs lcm) in
    class_if_is (pos l) (pos x) (omega arith) held ∙ ap (λ v. class_of v (pos x)) (sym lcm)
    ∙ met_same a b (pos x) (omega (arith, ints)) (omega (arith, ints)) k small in_a in_b

pub both_first : (a b : Class) (m n g : ℕ) → a.m ≡ pos m → b.m ≡ pos n → 0 < m → g ≡ gcd m n → (m / g * n < 2 ^ 127 → ⊥) → a ≡ met_of a b
both_first a b m n g am bm p h large =
    let parts = part_some m n g p h in
    let divisor = subst (λ (v : ℕ). Multiple (pos v) (pos m)) (sym h) (gcd_left (pos m) (pos n)) in
    let lcm : int_lcm a.m b.m ≡ pos (m / g * n) =
    ap (λ v. int_lcm v b.m) am ∙ ap (int_lcm (pos m)) bm ∙ ap (λ v. pos (m * n / v)) (sym h) ∙ ap pos (lcm_by_left m n g parts.0 divisor) in
    sym (met_of_first a b (omega (arith, ap unsigned_abs lcm, large)))

pub there_is : (P : Type 0) (v : ℕ) (o : Option ℕ) (l : ℕ) → SomeIff o P v → o ≡ Some l → P × (l ≡ v)
there_is P v None l k e = absurd (cc)
there_is P v (Some w) l k e = let same : w ≡ l = cc in (k.0, sym same ∙ k.1)

pub there_is_none : (P : Type 0) (v : ℕ) (o : Option ℕ) → SomeIff o P v → o ≡ None → P → ⊥
there_is_none P v None k e = k
there_is_none P v (Some w) k e = absurd (cc)

-- ---- moduli and rests as natural numbers

pub modulus_is : (m r m' : ℤ) (n : ℕ) → IsReduced m r → n ≡ unsigned_abs (to_z w128 (of_z w128 m)) → m ≡ m' → m' ≡ pos n
modulus_is m r m' n h e f = sym f ∙ omega (arith, ints, h.from, h.modulus_held, e)

pub rest_is : (m r m' r' : ℤ) (n : ℕ) → IsReduced m r → n ≡ unsigned_abs (to_z w128 (of_z w128 r)) → pos 0 <ℤ m' → m ≡ m' → r ≡ r' → r' ≡ pos n
rest_is m r m' r' n h e l f g = sym g ∙ omega (arith, ints, h.rest, h.rest_held, e, l, f)

pub some_is : (m : ℤ) (n : ℕ) → pos 0 <ℤ m → m ≡ pos n → 0 < n
some_is m n l e = omega (arith, ints, l, e)

pub rest_less : (m r m' : ℤ) (k n : ℕ) → IsReduced m r → m' ≡ pos k → m ≡ m' → r ≡ pos n → 0 < k → n < k
rest_less m r m' k n h e f g l = omega (arith, ints, h.rest, e, f, g)
