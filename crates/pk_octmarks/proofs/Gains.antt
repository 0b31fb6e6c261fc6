-- Marks behind assignments.
use Rattle.std.specs.Prelude.{◌≡◌, ◌≢◌, ◌⊎◌, ℕ, ◌/◌, ◌%◌, ◌==◌, ◌||◌, if◌then◌else◌, pos, neg_ℤ, ◌-ℤ◌, ◌+ℤ◌, Bool, false, ◌<◌, ◌+◌, ◌*◌, ℤ, true, Option, Some, None}
use Rattle.std.proofs.Common.{◌∙◌, ap, sym, subst, refl, arith, inl, inr}
use Rattle.std.proofs.lemmas.Bool.{cases_eq}
use Rattle.std.proofs.lemmas.Bool.Decides.{nat_tests}
use Rattle.std.proofs.lemmas.Int.{ints}
use Rattle.pk_octmat.specs.Bounds.{plus, capped}
use Rattle.pk_octmat.specs.Octagon.{Octagon, entry, bar, forgotten as without_variable, top_bound, written, IsOctagon}
use Rattle.pk_octmat.proofs.Points.{capped_same}
use Rattle.pk_octmat.proofs.Tabled.{octagon_entries}
use Rattle.pk_octmat.proofs.Written.{written_none}
use Rattle.pk_octclose.specs.Laws.{IsInside}
use Rattle.pk_octclose.proofs.Stays.{closed_stay}
use Rattle.pk_octops.specs.Assigns.{assignment_of, assigned, gain, source, moved, bound_to}
use Rattle.pk_octops.proofs.Along.{gain_bar}
use Rattle.pk_octops.proofs.Kept.{values_kept}
use Rattle.pk_octmarks.specs.declared.mark.Mark.{Mark}
use Rattle.pk_octmarks.specs.declared.mark.Mark.TheVariants.{Closed}
use Rattle.pk_octmarks.specs.Marks.{IsMarked, IsFar, changed}
use Rattle.pk_octmarks.proofs.Changes.{changed_holds}

gain_none : (k : ℕ) (c : ℤ) (i : ℕ) → i ≢ 2 * k → i ≢ 2 * k + 1 → gain k c i ≡ pos 0
gain_none k c i n o = by (i == (2 * k)) refl (i == (2 * k + 1)) refl
  where
    by : (p : Bool) → (i == (2 * k)) ≡ p → (q : Bool) → (i == (2 * k + 1)) ≡ q → (if p then c else (if q then neg_ℤ c else pos 0)) ≡ pos 0
    by true e q f = absurd (n (grind (arith, e, nat_tests)))
    by false e true f = absurd (o (grind (arith, f, nat_tests)))
    by false e false f = refl

-- ---- what changes is on the variable

-- places of other variables gain nothing
gain_off : (k : ℕ) (c : ℤ) (i : ℕ) → (i / 2) ≢ k → gain k c i ≡ pos 0
gain_off k c i n = gain_none k c i (λ e. n (omega (arith, e))) (λ e. n (omega (arith, e)))

source_off : (k t i : ℕ) → (i / 2) ≢ k → source k t i ≡ i
source_off k t i n = by ((i / 2) == k) refl
  where
    by : (b : Bool) → ((i / 2) == k) ≡ b → (if b then (if (t % 2) == 0 then i else bar i) else i) ≡ i
    by true e = absurd (n (grind (arith, e, nat_tests)))
    by false e = refl

plus_nothing : (b : Option ℤ) → plus b (Some (pos 0 -ℤ pos 0)) ≡ b
plus_nothing None = refl
plus_nothing (Some z) = let same : (z +ℤ (pos 0 -ℤ pos 0)) ≡ z = omega (arith, ints) in ap (λ y. Some y) same

moved_off : (m : Octagon) (k t : ℕ) (c : ℤ) (x y : ℕ) → IsOctagon m → (x / 2) ≢ k → (y / 2) ≢ k → moved (entry m) k t c x y ≡ entry m x y
unfolding moved
moved_off m k t c x y h n o =
    rw (source_off k t x n) (rw (source_off k t y o) (rw (gain_off k c x n) (rw (gain_off k c y o)
    (ap capped (plus_nothing (entry m x y)) ∙ capped_same (entry m x y) (h.whole.near x y)))))

forgotten_off : (e : ℕ → ℕ → Option ℤ) (k x y : ℕ) → (x / 2) ≢ k → (y / 2) ≢ k → without_variable e k x y ≡ e x y
forgotten_off e k x y n o = by ((x / 2) == k) refl ((y / 2) == k) refl
  where
    by : (s : Bool) → ((x / 2) == k) ≡ s → (t : Bool) → ((y / 2) == k) ≡ t → (if s || t then top_bound x y else e x y) ≡ e x y
    by true p t q = absurd (n (grind (arith, p, nat_tests)))
    by false p true q = absurd (o (grind (arith, q, nat_tests)))
    by false p false q = refl

bound_off : (e : ℕ → ℕ → Option ℤ) (k t : ℕ) (c : ℤ) (x y : ℕ) → (x / 2) ≢ k → (y / 2) ≢ k → bound_to e k t c x y ≡ e x y
unfolding bound_to
bound_off e k t c x y n o =
    written_none (written (without_variable e k) t (2 * k) (capped (Some c))) (2 * k) t (capped (Some (neg_ℤ c))) x y (λ s. n (omega (arith, s.0))) (λ s. o (omega (arith, s.1)))
    ∙ written_none (without_variable e k) t (2 * k) (capped (Some c)) x y (λ s. o (omega (arith, s.1))) (λ s. n (omega (arith, s.0)))
    ∙ forgotten_off e k x y n o

assigned_off : (m : Octagon) (k : ℕ) (t : Option ℕ) (c : ℤ) (x y : ℕ) → IsOctagon m → (x / 2) ≢ k → (y / 2) ≢ k → assigned (entry m) k t c x y ≡ entry m x y
assigned_off m k None c x y h n o = forgotten_off (entry m) k x y n o
assigned_off m k (Some t) c x y h n o = by ((t / 2) == k)
  where
    by : (s : Bool) → (if s then moved (entry m) k t c x y else bound_to (entry m) k t c x y) ≡ entry m x y
    by true = moved_off m k t c x y h n o
    by false = bound_off (entry m) k t c x y n o

pub assigned_holds : (mark : Mark) (m : Octagon) (k : ℕ) (t : Option ℕ) (c : ℤ) → IsOctagon m → k < m.vars → IsMarked mark m → IsMarked (changed mark k k) (assignment_of m k t c)
assigned_holds mark m k t c h p is = changed_holds mark m (assigned (entry m) k t c) k k h p p (λ x y xd yd n. off x y n) is
  where
    off : (x y : ℕ) → (((x / 2) ≢ k) × ((y / 2) ≢ k)) ⊎ (((x / 2) ≢ k) × ((y / 2) ≢ k)) → assigned (entry m) k t c x y ≡ entry m x y
    off x y (inl q) = assigned_off m k t c x y h q.0 q.1
    off x y (inr q) = assigned_off m k t c x y h q.0 q.1

-- ---- adding far from the cap

source_same : (k i : ℕ) → source k (2 * k) i ≡ i
source_same k i = by ((i / 2) == k)
  where
    even : ((2 * k) % 2 == 0) ≡ true
    even = grind (arith, nat_tests)

    by : (b : Bool) → (if b then (if ((2 * k) % 2) == 0 then i else bar i) else i) ≡ i
    by true = ap (λ e. if e then i else bar i) even
    by false = refl

moved_is : (e : ℕ → ℕ → Option ℤ) (k : ℕ) (c : ℤ) (i j : ℕ) → moved e k (2 * k) c i j ≡ capped (plus (e i j) (Some (gain k c j -ℤ gain k c i)))
unfolding moved
moved_is e k c i j =
    ap (λ x. capped (plus (e x (source k (2 * k) j)) (Some (gain k c j -ℤ gain k c i)))) (source_same k i)
    ∙ ap (λ x. capped (plus (e i x) (Some (gain k c j -ℤ gain k c i)))) (source_same k j)

-- where two places gain different numbers one is of the variable
far_where : (a : Octagon) (k : ℕ) (c : ℤ) → IsOctagon a → IsFar a k → (i j : ℕ) → i < 2 * a.vars → j < 2 * a.vars → gain k c i ≢ gain k c j → IsInside (entry a i j)
far_where a k c h far i j id jd n = first (cases_eq i (2 * k)) (cases_eq i (2 * k + 1)) (cases_eq j (2 * k)) (cases_eq j (2 * k + 1))
  where
    turned : (y : ℕ) → bar j ≡ y → IsInside (entry a y (bar i)) → IsInside (entry a i j)
    turned y e g = subst IsInside (sym (h.whole.coherent.turned i j ∙ ap (λ x. entry a x (bar i)) e)) g

    within : bar i < 2 * a.vars
    within = omega (arith, id)

    first : (i ≡ 2 * k) ⊎ (i ≢ 2 * k) → (i ≡ 2 * k + 1) ⊎ (i ≢ 2 * k + 1) → (j ≡ 2 * k) ⊎ (j ≢ 2 * k) → (j ≡ 2 * k + 1) ⊎ (j ≢ 2 * k + 1) → IsInside (entry a i j)
    first (inl e) f g l = subst (λ x. IsInside (entry a x j)) (sym e) (far j jd).0
    first (inr e) (inl f) g l = subst (λ x. IsInside (entry a x j)) (sym f) (far j jd).1
    first (inr e) (inr f) (inl g) l = turned (2 * k + 1) (omega (arith, g)) (far (bar i) within).1
    first (inr e) (inr f) (inr g) (inl l) = turned (2 * k) (omega (arith, l)) (far (bar i) within).0
    first (inr e) (inr f) (inr g) (inr l) = absurd (n (gain_none k c i e f ∙ sym (gain_none k c j g l)))

pub gained_holds : (m : Octagon) (k : ℕ) (c : ℤ) → IsOctagon m → k < m.vars → IsFar m k → IsMarked Closed m → IsMarked Closed (assignment_of m k (Some (2 * k)) c)
gained_holds m k c h p far is =
    let same : ((2 * k) / 2 == k) ≡ true = grind (arith, nat_tests) in
    let made = octagon_entries m.vars (assigned (entry m) k (Some (2 * k)) c) in
    closed_stay.gained m (assignment_of m k (Some (2 * k)) c) (gain k c) (values_kept.assignment_octagon m k (Some (2 * k)) c h p (omega (arith, p))) is (gain_bar k c) (far_where m k c h far)
    (record { vars = refl; each = λ i j id jd. made.each i j id jd ∙ ap (λ b. if b then moved (entry m) k (2 * k) c i j else bound_to (entry m) k (2 * k) c i j) same ∙ moved_is (entry m) k c i j })
