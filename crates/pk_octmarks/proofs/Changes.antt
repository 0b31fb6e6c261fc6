-- Marks where bounds on one variable have changed.
use Rattle.std.specs.Prelude.{◌≡◌, ◌≢◌, ◌⊎◌, ℕ, ◌<◌, ◌*◌, ◌/◌, ◌==◌, ◌||◌, if◌then◌else◌, Bool, true, false, ℤ, pos, ◌+ℤ◌, int_lt, Option, Some, None}
use Rattle.std.proofs.Common.{refl, sym, subst, arith, inl, inr}
use Rattle.std.proofs.lemmas.Bool.Decides.{nat_tests}
use Rattle.pk_octmat.specs.Bounds.{lesser, capped}
use Rattle.pk_octmat.specs.Octagon.{Octagon, IsOctagon, entry, bar, octagon_of, forgotten as without_variable}
use Rattle.pk_octmat.proofs.Tabled.{octagon_entries}
use Rattle.pk_octmat.proofs.Written.{IsPlace, written_none}
use Rattle.pk_octclose.proofs.Stays.{closed_stay}
use Rattle.pk_octops.specs.Guards.{IsGuard, guard_of, guarded as guarded_bounds, lowered}
use Rattle.pk_octmarks.specs.declared.mark.Mark.{Mark}
use Rattle.pk_octmarks.specs.declared.mark.Mark.TheVariants.{Closed, ClosedBut, Unknown}
use Rattle.pk_octmarks.specs.Marks.{IsMarked, changed, forgotten, guarded}
use Rattle.pk_octmarks.proofs.Without.{without, without_octagon, closed_but, but_closed, but_same, but_forgotten}

-- the bound from x to y is none on both variables
abbrev pub IsOff : ℕ → ℕ → ℕ → ℕ → Type 0
IsOff j k x y = (((x / 2) ≢ j) × ((y / 2) ≢ j)) ⊎ (((x / 2) ≢ k) × ((y / 2) ≢ k))

pub changed_holds : (mark : Mark) (m : Octagon) (f : ℕ → ℕ → Option ℤ) (j k : ℕ) → IsOctagon m → j < m.vars → k < m.vars → ((x y : ℕ) → x < 2 * m.vars → y < 2 * m.vars → IsOff j k x y → f x y ≡ entry m x y) → IsMarked mark m → IsMarked (changed mark j k) (octagon_of m.vars f)
changed_holds Closed m f j k h p q e is = (p, but_same m f j h p (λ x y xd yd n o. e x y xd yd (inl (n, o))) (closed_but m j h p is))
changed_holds (ClosedBut i) m f j k h p q e is = by (i == j) refl (i == k) refl
  where
    by : (s : Bool) → (i == j) ≡ s → (t : Bool) → (i == k) ≡ t → IsMarked (if s || t then ClosedBut i else Unknown) (octagon_of m.vars f)
    by true u t v =
        let same : i ≡ j = grind (arith, nat_tests) in
        (is.0, but_same m f i h is.0 (λ x y xd yd n o. e x y xd yd (inl (subst (λ z. ((x / 2) ≢ z) × ((y / 2) ≢ z)) same (n, o)))) is.1)
    by false u true v =
        let same : i ≡ k = grind (arith, nat_tests) in
        (is.0, but_same m f i h is.0 (λ x y xd yd n o. e x y xd yd (inr (subst (λ z. ((x / 2) ≢ z) × ((y / 2) ≢ z)) same (n, o)))) is.1)
    by false u false v = tt
changed_holds Unknown m f j k h p q e is = tt

pub forgotten_holds : (mark : Mark) (m : Octagon) (k : ℕ) → IsOctagon m → k < m.vars → IsMarked mark m → IsMarked (forgotten mark k) (without m k)
forgotten_holds Closed m k h p is = closed_stay.forgotten m (without m k) k (without_octagon m k h p) is (octagon_entries m.vars (λ i j. without_variable (entry m) k i j))
forgotten_holds (ClosedBut i) m k h p is = by (i == k) refl
  where
    by : (s : Bool) → (i == k) ≡ s → IsMarked (if s then Closed else ClosedBut i) (without m k)
    by true e =
        let same : i ≡ k = grind (arith, nat_tests) in
        subst (λ j. IsMarked Closed (without m j)) same (but_closed m i h is.0 is.1)
    by false e = (is.0, but_forgotten m i k h is.0 p is.1)
forgotten_holds Unknown m k h p is = tt

lowered_off : (e : ℕ → ℕ → Option ℤ) (i j : ℕ) (c : ℤ) (x y : ℕ) → IsOff (i / 2) (j / 2) x y → lowered e i j c x y ≡ e x y
lowered_off e i j c x y n = written_none e i j (lesser (e i j) (capped (Some c))) x y (first n) (second n)
  where
    first : IsOff (i / 2) (j / 2) x y → IsPlace x y i j → ⊥
    first (inl q) s = q.0 (omega (arith, s.0))
    first (inr q) s = q.1 (omega (arith, s.1))

    second : IsOff (i / 2) (j / 2) x y → IsPlace x y (bar j) (bar i) → ⊥
    second (inl q) s = q.1 (omega (arith, s.1))
    second (inr q) s = q.0 (omega (arith, s.0))

-- the place of the negative is of the same variable
same_half : (i : ℕ) → bar i / 2 ≡ i / 2
same_half i = omega arith

turned : (j k x y : ℕ) → IsOff j k x y → IsOff k j x y
turned j k x y (inl q) = inr q
turned j k x y (inr q) = inl q

pub guard_holds : (mark : Mark) (m r : Octagon) (a b : Option ℕ) (c : ℤ) → IsOctagon m → IsGuard m.vars a b → IsMarked mark m → guard_of m a b c ≡ Some r → IsMarked (guarded mark a b) r
guard_holds mark m r None b c h g is e = by (int_lt c (pos 0)) e
  where
    by : (t : Bool) → (if t then None else Some m) ≡ Some r → IsMarked mark r
    by true e = absurd (cc)
    by false e = let same : m ≡ r = cc in subst (IsMarked mark) same is
guard_holds mark m r (Some a) None c h g is e =
    let same : octagon_of m.vars (guarded_bounds (entry m) (Some a) None c) ≡ r = cc in
    subst (IsMarked (changed mark (a / 2) (a / 2))) same
    (changed_holds mark m (guarded_bounds (entry m) (Some a) None c) (a / 2) (a / 2) h (omega (arith, g)) (omega (arith, g)) (λ x y xd yd n. lowered_off (entry m) (bar a) a (c +ℤ c) x y (subst (λ z. IsOff z (a / 2) x y) (sym (same_half a)) n)) is)
guard_holds mark m r (Some a) (Some b) c h g is e =
    let same : octagon_of m.vars (guarded_bounds (entry m) (Some a) (Some b) c) ≡ r = cc in
    subst (IsMarked (changed mark (a / 2) (b / 2))) same
    (changed_holds mark m (guarded_bounds (entry m) (Some a) (Some b) c) (a / 2) (b / 2) h (omega (arith, g.0)) (omega (arith, g.1)) (λ x y xd yd n. lowered_off (entry m) (bar b) a c x y (subst (λ z. IsOff z (a / 2) x y) (sym (same_half b)) (turned (a / 2) (b / 2) x y n))) is)
