-- Integers that meet the operands meet the result.
use Rattle.std.specs.Prelude.{◌≡◌, ℕ, ◌<◌, ◌≤◌, ◌+◌, ◌*◌, ◌/◌, ◌%◌, ◌==◌, ℤ, neg_ℤ, ◌-ℤ◌, Option, Some, None, Bool, true, false, if◌then◌else◌, ◌⊎◌}
use Rattle.std.proofs.Common.{refl, subst, arith, inl, inr}
use Rattle.std.proofs.lemmas.Bool.{cases_lt}
use Rattle.std.proofs.lemmas.Bool.Decides.{nat_tests}
use Rattle.std.proofs.lemmas.Int.{ints}
use Rattle.pk_octmat.specs.Bounds.{AtMost, greater, halved, is_at_most}
use Rattle.pk_octmat.specs.Octagon.{HasEntries, Meets, Octagon, entry, side}
use Rattle.pk_octmat.proofs.Cells.{cell_column_out, cell_row_out}
use Rattle.pk_octmat.proofs.Tropical.{at_most_none, at_most_same, at_most_trans, half_high, greater_right, greater_left}
use Rattle.pk_octops.specs.Tables.{narrowed, widened}
use Rattle.pk_octops.specs.Values.{IsFrom, least_of}
use Rattle.pk_octops.proofs.Pointwise.{at_most_from}

-- integers that meet the bounds at each two places meet the matrix
pub meets_from : (n : ℕ) (f : ℕ → ℕ → Option ℤ) (m : Octagon) (x : ℕ → ℤ) → HasEntries n f m → ((i j : ℕ) → i < 2 * n → j < 2 * n → AtMost (Some (side x j -ℤ side x i)) (f i j)) → Meets (entry m) x
meets_from n f m x h each = record { each = λ i j. by i j (cases_lt i (2 * n)) (cases_lt j (2 * n)) }
  where
    by : (i j : ℕ) → (i < 2 * n) ⊎ (2 * n ≤ i) → (j < 2 * n) ⊎ (2 * n ≤ j) → AtMost (Some (side x j -ℤ side x i)) (entry m i j)
    by i j (inl id) (inl jd) = rw (h.each i j id jd) (each i j id jd)
    by i j (inl id) (inr g) = let out : 2 * m.vars ≤ j = omega (arith, h.vars) in rw (cell_column_out (2 * m.vars) m.cells i j out) tt
    by i j (inr g) q = let out : 2 * m.vars ≤ i = omega (arith, h.vars) in rw (cell_row_out (2 * m.vars) m.cells i j out) tt

pub widened_left : (h n : Option ℤ) → AtMost h (widened h n)
widened_left h n = by (is_at_most n h)
  where
    by : (t : Bool) → AtMost h (if t then h else None)
    by true = at_most_same h
    by false = at_most_none h

pub widened_right : (h n : Option ℤ) → AtMost n (widened h n)
widened_right h n = by (is_at_most n h) refl
  where
    by : (t : Bool) → is_at_most n h ≡ t → AtMost n (if t then h else None)
    by true e = at_most_from n h e
    by false e = at_most_none n

narrowed_from : (v h n : Option ℤ) → AtMost v h → AtMost v n → AtMost v (narrowed h n)
narrowed_from v None n p q = q
narrowed_from v (Some h) n p q = p

pub join_sound : (n : ℕ) (a b m : Octagon) → HasEntries n (λ i j. greater (entry a i j) (entry b i j)) m → (x : ℕ → ℤ) → Meets (entry a) x ⊎ Meets (entry b) x → Meets (entry m) x
join_sound n a b m h x (inl p) =
    meets_from n (λ i j. greater (entry a i j) (entry b i j)) m x h
    (λ i j id jd. at_most_trans (Some (side x j -ℤ side x i)) (entry a i j) (greater (entry a i j) (entry b i j)) (p.each i j) (greater_left (entry a i j) (entry b i j)))
join_sound n a b m h x (inr p) =
    meets_from n (λ i j. greater (entry a i j) (entry b i j)) m x h
    (λ i j id jd. at_most_trans (Some (side x j -ℤ side x i)) (entry b i j) (greater (entry a i j) (entry b i j)) (p.each i j) (greater_right (entry a i j) (entry b i j)))

pub widen_sound : (n : ℕ) (a b m : Octagon) → HasEntries n (λ i j. widened (entry a i j) (entry b i j)) m → (x : ℕ → ℤ) → Meets (entry a) x ⊎ Meets (entry b) x → Meets (entry m) x
widen_sound n a b m h x (inl p) =
    meets_from n (λ i j. widened (entry a i j) (entry b i j)) m x h
    (λ i j id jd. at_most_trans (Some (side x j -ℤ side x i)) (entry a i j) (widened (entry a i j) (entry b i j)) (p.each i j) (widened_left (entry a i j) (entry b i j)))
widen_sound n a b m h x (inr p) =
    meets_from n (λ i j. widened (entry a i j) (entry b i j)) m x h
    (λ i j id jd. at_most_trans (Some (side x j -ℤ side x i)) (entry b i j) (widened (entry a i j) (entry b i j)) (p.each i j) (widened_right (entry a i j) (entry b i j)))

pub narrow_sound : (n : ℕ) (a b m : Octagon) → HasEntries n (λ i j. narrowed (entry a i j) (entry b i j)) m → (x : ℕ → ℤ) → Meets (entry a) x → Meets (entry b) x → Meets (entry m) x
narrow_sound n a b m h x p q =
    meets_from n (λ i j. narrowed (entry a i j) (entry b i j)) m x h (λ i j id jd. narrowed_from (Some (side x j -ℤ side x i)) (entry a i j) (entry b i j) (p.each i j) (q.each i j))

-- ---- the range of a variable
below_half : (v : ℤ) (b : Option ℤ) → AtMost (Some (v -ℤ neg_ℤ v)) b → AtMost (Some v) (halved b)
below_half v None h = tt
below_half v (Some z) h = omega (arith, ints, h, half_high z)

above_half : (v : ℤ) (b : Option ℤ) → AtMost (Some (neg_ℤ v -ℤ v)) b → IsFrom (least_of b) v
above_half v None h = tt
above_half v (Some z) h = omega (arith, ints, h, half_high z)

pub side_of : (x : ℕ → ℤ) (k : ℕ) → side x (2 * k) ≡ x k
side_of x k =
    let even : ((2 * k) % 2 == 0) ≡ true = grind (arith, nat_tests) in
    let half : (2 * k) / 2 ≡ k = omega arith in
    rw even (rw half refl)

pub side_back : (x : ℕ → ℤ) (k : ℕ) → side x (2 * k + 1) ≡ neg_ℤ (x k)
side_back x k =
    let odd : ((2 * k + 1) % 2 == 0) ≡ false = grind (arith, nat_tests) in
    let half : (2 * k + 1) / 2 ≡ k = omega arith in
    rw odd (rw half refl)

pub range_sound : (m : Octagon) (k : ℕ) (x : ℕ → ℤ) → Meets (entry m) x → IsFrom (least_of (entry m (2 * k) (2 * k + 1))) (x k) × AtMost (Some (x k)) (halved (entry m (2 * k + 1) (2 * k)))
range_sound m k x p = (
  above_half (x k) (entry m (2 * k) (2 * k + 1)) (subst (λ z. AtMost (Some (neg_ℤ (x k) -ℤ z)) (entry m (2 * k) (2 * k + 1))) (side_of x k) (subst (λ z. AtMost (Some (z -ℤ side x (2 * k))) (entry m (2 * k) (2 * k + 1))) (side_back x k) (p.each (2 * k) (2 * k + 1)))),
  below_half (x k) (entry m (2 * k + 1) (2 * k)) (subst (λ z. AtMost (Some (x k -ℤ z)) (entry m (2 * k + 1) (2 * k))) (side_back x k) (subst (λ z. AtMost (Some (z -ℤ side x (2 * k + 1))) (entry m (2 * k + 1) (2 * k))) (side_of x k) (p.each (2 * k + 1) (2 * k)))),
)
