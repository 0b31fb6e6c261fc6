-- Octagons without the bounds on one variable.
use Rattle.std.specs.Prelude.{◌≡◌, ◌≢◌, ℕ, ◌<◌, ◌*◌, ◌/◌, ◌==◌, ◌||◌, if◌then◌else◌, Bool, true, false, ℤ, pos, Option, Some, None}
use Rattle.std.proofs.Common.{◌∙◌, refl, sym, subst, arith}
use Rattle.std.proofs.lemmas.Bool.Decides.{nat_tests}
use Rattle.pk_octmat.specs.Octagon.{Octagon, IsOctagon, entry, forgotten, octagon_of, top_bound}
use Rattle.pk_octmat.proofs.Tabled.{octagon_entries, octagon_is}
use Rattle.pk_octclose.specs.Closing.{IsClosed}
use Rattle.pk_octclose.specs.Places.{closing_of, IsClosedBut}
use Rattle.pk_octclose.proofs.Floyd.{closing_right}
use Rattle.pk_octclose.proofs.Stays.{closed_stay}
use Rattle.pk_octops.proofs.Kept.{values_kept}

-- matrices with the same bounds are one
pub same_octagon : (n : ℕ) (f g : ℕ → ℕ → Option ℤ) → IsOctagon (octagon_of n f) → ((i j : ℕ) → i < 2 * n → j < 2 * n → f i j ≡ g i j) → octagon_of n f ≡ octagon_of n g
same_octagon n f g h e = octagon_is n g (octagon_of n f) h (record { vars = refl; each = λ i j id jd. (octagon_entries n f).each i j id jd ∙ e i j id jd })

-- without the bounds on variable k
abbrev pub without : Octagon → ℕ → Octagon
without m k = octagon_of m.vars (forgotten (entry m) k)

pub without_octagon : (m : Octagon) (k : ℕ) → IsOctagon m → k < m.vars → IsOctagon (without m k)
without_octagon m k h p = values_kept.assignment_octagon m k None (pos 0) h p tt

-- what is closed is closed without them
pub closed_but : (m : Octagon) (k : ℕ) → IsOctagon m → k < m.vars → IsClosed (2 * m.vars) (entry m) → IsClosedBut m k
closed_but m k h p c =
    let o = without_octagon m k h p in
    closing_right.again (without m k) o (closed_stay.forgotten m (without m k) k o c (octagon_entries m.vars (λ i j. forgotten (entry m) k i j)))

pub but_closed : (m : Octagon) (k : ℕ) → IsOctagon m → k < m.vars → IsClosedBut m k → IsClosed (2 * m.vars) (entry (without m k))
but_closed m k h p is = closing_right.some (without m k) (without m k) (without_octagon m k h p) is

pub forgotten_same : (e f : ℕ → ℕ → Option ℤ) (k i j : ℕ) → ((i / 2) ≢ k → (j / 2) ≢ k → f i j ≡ e i j) → forgotten f k i j ≡ forgotten e k i j
forgotten_same e f k i j h = by ((i / 2) == k) refl ((j / 2) == k) refl
  where
    by : (s : Bool) → ((i / 2) == k) ≡ s → (t : Bool) → ((j / 2) == k) ≡ t → (if s || t then top_bound i j else f i j) ≡ (if s || t then top_bound i j else e i j)
    by true p t q = refl
    by false p true q = refl
    by false p false q =
        let first : (i / 2) ≢ k = grind (arith, nat_tests) in
        let second : (j / 2) ≢ k = grind (arith, nat_tests) in
        h first second

-- the order in which two variables are forgotten is free
pub forgotten_both : (e : ℕ → ℕ → Option ℤ) (j k x y : ℕ) → forgotten (forgotten e j) k x y ≡ forgotten (forgotten e k) j x y
forgotten_both e j k x y = by ((x / 2) == j) ((y / 2) == j) ((x / 2) == k) ((y / 2) == k)
  where
    by : (s t u v : Bool) → (if u || v then top_bound x y else (if s || t then top_bound x y else e x y)) ≡ (if s || t then top_bound x y else (if u || v then top_bound x y else e x y))
    by true t true v = refl
    by true t false true = refl
    by true t false false = refl
    by false true true v = refl
    by false true false true = refl
    by false true false false = refl
    by false false true v = refl
    by false false false true = refl
    by false false false false = refl

-- other bounds on variable k make no difference
pub but_same : (m : Octagon) (f : ℕ → ℕ → Option ℤ) (k : ℕ) → IsOctagon m → k < m.vars → ((i j : ℕ) → i < 2 * m.vars → j < 2 * m.vars → (i / 2) ≢ k → (j / 2) ≢ k → f i j ≡ entry m i j) → IsClosedBut m k → IsClosedBut (octagon_of m.vars f) k
but_same m f k h p e is = subst (λ o. closing_of o ≡ Some o) same is
  where
    c : Octagon
    c = octagon_of m.vars f

    same : without m k ≡ without c k
    same = same_octagon m.vars (forgotten (entry m) k) (forgotten (entry c) k) (without_octagon m k h p) (λ i j id jd. sym (forgotten_same (entry m) (entry c) k i j (λ n o. (octagon_entries m.vars f).each i j id jd ∙ e i j id jd n o)))

-- what is closed without variable j, and then loses variable k
pub but_forgotten : (m : Octagon) (j k : ℕ) → IsOctagon m → j < m.vars → k < m.vars → IsClosedBut m j → IsClosedBut (without m k) j
but_forgotten m j k h p q is = subst (λ o. closing_of o ≡ Some o) same (closed_but (without m j) k first q (but_closed m j h p is))
  where
    first : IsOctagon (without m j)
    first = without_octagon m j h p

    same : without (without m j) k ≡ without (without m k) j
    same = same_octagon m.vars (forgotten (entry (without m j)) k) (forgotten (entry (without m k)) j) (without_octagon (without m j) k first q) (λ x y xd yd.
        forgotten_same (forgotten (entry m) j) (entry (without m j)) k x y (λ n o. (octagon_entries m.vars (forgotten (entry m) j)).each x y xd yd)
        ∙ forgotten_both (entry m) j k x y
        ∙ sym (forgotten_same (forgotten (entry m) k) (entry (without m k)) j x y (λ n o. (octagon_entries m.vars (forgotten (entry m) k)).each x y xd yd)))
