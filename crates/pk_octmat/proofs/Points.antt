-- Numbers that meet the bounds of a matrix meet those of a changed one.
use Rattle.std.specs.Prelude.{◌≡◌, ◌≢◌, ℕ, ◌+◌, ◌-◌, ◌*◌, ◌/◌, ◌%◌, ◌^◌, ◌==◌, ◌||◌, ℤ, pos, negsuc, neg_ℤ, ◌-ℤ◌, ◌≤ℤ◌, int_lt, Option, Some, None, Bool, true, false, if◌then◌else◌, ◌⊎◌}
use Rattle.std.proofs.Common.{◌∙◌, ap, refl, sym, subst, arith, inl, inr}
use Rattle.std.proofs.lemmas.Bool.Decides.{nat_tests}
use Rattle.std.proofs.lemmas.Bool.{cases_eq}
use Rattle.std.proofs.lemmas.Int.{ints}
use Rattle.pk_octmat.specs.Bounds.{AtMost, capped, IsNear}
use Rattle.pk_octmat.specs.Octagon.{bar, side, Meets, written, forgotten, top_bound, with_number}
use Rattle.pk_octmat.proofs.Written.{IsPlace, is_place, written_first, written_second, written_none}
use Rattle.pk_octmat.proofs.Bars.{side_bar}
use Rattle.pk_octmat.proofs.Matrices.{top_same, top_other}
use Rattle.pk_octmat.proofs.Tropical.{at_most_none}

-- a cap only raises, and never above a bound that is near 0
pub at_most_capped : (b : Option ℤ) → AtMost b (capped b)
at_most_capped None = tt
at_most_capped (Some z) = by (int_lt (pos (2 ^ 66)) z) refl (int_lt z (negsuc (2 ^ 66 - 1))) refl
  where
    by : (s : Bool) → int_lt (pos (2 ^ 66)) z ≡ s → (t : Bool) → int_lt z (negsuc (2 ^ 66 - 1)) ≡ t → AtMost (Some z) (if s then None else (if t then Some (negsuc (2 ^ 66 - 1)) else Some z))
    by true e t f = tt
    by false e true f = omega (arith, ints)
    by false e false f = omega (arith, ints)

pub capped_most : (b c : Option ℤ) → AtMost b c → IsNear (2 ^ 66) c → AtMost (capped b) c
capped_most b None h n = at_most_none (capped b)
capped_most None (Some w) h n = absurd h
capped_most (Some z) (Some w) h n = by (int_lt (pos (2 ^ 66)) z) refl (int_lt z (negsuc (2 ^ 66 - 1))) refl
  where
    by : (s : Bool) → int_lt (pos (2 ^ 66)) z ≡ s → (t : Bool) → int_lt z (negsuc (2 ^ 66 - 1)) ≡ t → AtMost (if s then None else (if t then Some (negsuc (2 ^ 66 - 1)) else Some z)) (Some w)
    by true e t f = absurd (omega (arith, ints, h, n.1))
    by false e true f = omega (arith, ints, n.0)
    by false e false f = omega (arith, ints, h)

pub capped_near : (b : Option ℤ) → IsNear (2 ^ 66) (capped b)
capped_near None = tt
capped_near (Some z) = by (int_lt (pos (2 ^ 66)) z) refl (int_lt z (negsuc (2 ^ 66 - 1))) refl
  where
    by : (s : Bool) → int_lt (pos (2 ^ 66)) z ≡ s → (t : Bool) → int_lt z (negsuc (2 ^ 66 - 1)) ≡ t → IsNear (2 ^ 66) (if s then None else (if t then Some (negsuc (2 ^ 66 - 1)) else Some z))
    by true e t f = tt
    by false e true f = (omega (arith, ints), omega (arith, ints))
    by false e false f = (omega (arith, ints), omega (arith, ints))

-- a bound that is near 0 is its own cap
pub capped_same : (b : Option ℤ) → IsNear (2 ^ 66) b → capped b ≡ b
capped_same None n = refl
capped_same (Some z) n = by (int_lt (pos (2 ^ 66)) z) refl (int_lt z (negsuc (2 ^ 66 - 1))) refl
  where
    by : (s : Bool) → int_lt (pos (2 ^ 66)) z ≡ s → (t : Bool) → int_lt z (negsuc (2 ^ 66 - 1)) ≡ t → (if s then None else (if t then Some (negsuc (2 ^ 66 - 1)) else Some z)) ≡ Some z
    by true e t f = absurd (omega (arith, ints, n.1))
    by false e true f = absurd (omega (arith, ints, n.0))
    by false e false f = refl

-- a cap keeps the order
pub capped_le : (a b : Option ℤ) → AtMost a b → AtMost (capped a) (capped b)
capped_le a None h = at_most_none (capped a)
capped_le None (Some b) h = absurd h
capped_le (Some a) (Some b) h = by (int_lt (pos (2 ^ 66)) a) refl (int_lt a (negsuc (2 ^ 66 - 1))) refl (int_lt (pos (2 ^ 66)) b) refl (int_lt b (negsuc (2 ^ 66 - 1))) refl
  where
    by : (p : Bool) → int_lt (pos (2 ^ 66)) a ≡ p → (q : Bool) → int_lt a (negsuc (2 ^ 66 - 1)) ≡ q → (r : Bool) → int_lt (pos (2 ^ 66)) b ≡ r → (s : Bool) → int_lt b (negsuc (2 ^ 66 - 1)) ≡ s
        → AtMost (if p then None else (if q then Some (negsuc (2 ^ 66 - 1)) else Some a)) (if r then None else (if s then Some (negsuc (2 ^ 66 - 1)) else Some b))
    by p pe q qe true re s se = at_most_none (if p then None else (if q then Some (negsuc (2 ^ 66 - 1)) else Some a))
    by true pe q qe false re s se = absurd (omega (arith, ints, h))
    by false pe true qe false re true se = omega (arith, ints)
    by false pe true qe false re false se = omega (arith, ints)
    by false pe false qe false re true se = absurd (omega (arith, ints, h))
    by false pe false qe false re false se = h

turned_back : (a b : ℤ) → (neg_ℤ a -ℤ neg_ℤ b) ≡ (b -ℤ a)
turned_back a b = omega (arith, ints)

-- numbers that meet a bound meet the matrix in which it is written
pub written_holds : (e : ℕ → ℕ → Option ℤ) (i j : ℕ) (b : Option ℤ) (x : ℕ → ℤ) → Meets e x → AtMost (Some (side x j -ℤ side x i)) b → (a c : ℕ) → AtMost (Some (side x c -ℤ side x a)) (written e i j b a c)
written_holds e i j b x m h a c = by (is_place a c i j) (is_place a c (bar j) (bar i))
  where
    by : IsPlace a c i j ⊎ (IsPlace a c i j → ⊥) → IsPlace a c (bar j) (bar i) ⊎ (IsPlace a c (bar j) (bar i) → ⊥) → AtMost (Some (side x c -ℤ side x a)) (written e i j b a c)
    by (inl s) t = rw (written_first e i j b a c s) (subst (λ k. AtMost (Some (side x k -ℤ side x a)) b) (sym s.1) (subst (λ k. AtMost (Some (side x j -ℤ side x k)) b) (sym s.0) h))
    by (inr k) (inl t) =
        let turn : (side x (bar i) -ℤ side x (bar j)) ≡ (side x j -ℤ side x i) = ap (λ z. z -ℤ side x (bar j)) (side_bar x i) ∙ ap (λ z. neg_ℤ (side x i) -ℤ z) (side_bar x j) ∙ turned_back (side x i) (side x j) in
        let back : AtMost (Some (side x (bar i) -ℤ side x (bar j))) b = subst (λ z. AtMost (Some z) b) (sym turn) h in
        rw (written_second e i j b a c t) (subst (λ k. AtMost (Some (side x k -ℤ side x a)) b) (sym t.1) (subst (λ k. AtMost (Some (side x (bar i) -ℤ side x k)) b) (sym t.0) back))
    by (inr k) (inr n) = rw (written_none e i j b a c k n) (m.each a c)

-- the other variables keep their numbers
pub side_other : (x : ℕ → ℤ) (k : ℕ) (v : ℤ) (i : ℕ) → ((i / 2) == k) ≡ false → side (with_number x k v) i ≡ side x i
side_other x k v i n = rw n refl

pub side_first : (x : ℕ → ℤ) (k : ℕ) (v : ℤ) → side (with_number x k v) (2 * k) ≡ v
side_first x k v =
    let even : ((2 * k) % 2 == 0) ≡ true = grind (arith, nat_tests) in
    let half : ((2 * k) / 2 == k) ≡ true = grind (arith, nat_tests) in
    rw even (rw half refl)

pub side_second : (x : ℕ → ℤ) (k : ℕ) (v : ℤ) → side (with_number x k v) (2 * k + 1) ≡ neg_ℤ v
side_second x k v =
    let odd : ((2 * k + 1) % 2 == 0) ≡ false = grind (arith, nat_tests) in
    let half : ((2 * k + 1) / 2 == k) ≡ true = grind (arith, nat_tests) in
    rw odd (rw half refl)

no_change : (a : ℤ) → (a -ℤ a) ≤ℤ pos 0
no_change a = omega (arith, ints)

pub top_holds : (x : ℕ → ℤ) (i j : ℕ) → AtMost (Some (side x j -ℤ side x i)) (top_bound i j)
top_holds x i j = by (cases_eq i j)
  where
    by : (i ≡ j) ⊎ (i ≢ j) → AtMost (Some (side x j -ℤ side x i)) (top_bound i j)
    by (inl e) = subst (λ q. AtMost (Some (side x q -ℤ side x i)) (top_bound i q)) e (rw (top_same i) (no_change (side x i)))
    by (inr n) = rw (top_other i j n) tt

-- a variable without bounds may have any number
pub forgotten_holds : (e : ℕ → ℕ → Option ℤ) (k : ℕ) (x : ℕ → ℤ) (v : ℤ) → Meets e x → (i j : ℕ) → AtMost (Some (side (with_number x k v) j -ℤ side (with_number x k v) i)) (forgotten e k i j)
forgotten_holds e k x v m i j = by ((i / 2) == k) refl ((j / 2) == k) refl
  where
    by : (s : Bool) → ((i / 2) == k) ≡ s → (t : Bool) → ((j / 2) == k) ≡ t → AtMost (Some (side (with_number x k v) j -ℤ side (with_number x k v) i)) (if s || t then top_bound i j else e i j)
    by true p t q = top_holds (with_number x k v) i j
    by false p true q = top_holds (with_number x k v) i j
    by false p false q = rw (side_other x k v i p) (rw (side_other x k v j q) (m.each i j))
