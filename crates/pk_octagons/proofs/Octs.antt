-- Lowering an octagon by ranges.
use Rattle.std.specs.Prelude.{◌≡◌, ◌⊎◌, ℕ, zero, suc, ◌+◌, ◌*◌, ◌==◌, ◌&&◌, ◌||◌, if◌then◌else◌, Bool, true, false, ◌<◌, ◌≤◌, ◌^◌, ℤ, pos, neg_ℤ, ◌+ℤ◌, ◌-ℤ◌, ◌≤ℤ◌, List, Option, Some, None}
use Rattle.std.proofs.Common.{◌∙◌, ap, refl, sym, subst, arith, inl, inr}
use Rattle.std.proofs.lemmas.Bool.{cases_lt}
use Rattle.std.proofs.lemmas.Bool.Decides.{nat_tests}
use Rattle.std.proofs.lemmas.Int.{ints}
use Rattle.std.proofs.Common.{rules, to_z, of_z}
use Rattle.std.specs.Int.{w128}
use Rattle.std.specs.Int.RustNames.{FitsSigned}
use Rattle.std.proofs.lemmas.Int.{to_z-of_z}
use Rattle.pk_ctypes.specs.declared.types.IntType.{IntType}
use Rattle.pk_ctypes.specs.Types.{InType}
use Rattle.pk_ctypes.proofs.Wrapped.{sized}
use Rattle.pk_octmat.specs.Bounds.{AtMost, capped, lesser}
use Rattle.pk_octmat.specs.Octagon.{Octagon, entry, bar, side, written, Meets, IsOctagon}
use Rattle.pk_octmat.specs.Shapes.{left_of}
use Rattle.pk_octmat.specs.declared.shape.Shape.{Shape}
use Rattle.pk_octmat.specs.declared.shape.Shape.TheVariants.{Kept, Empty}
use Rattle.pk_octmat.proofs.Cells.{cell_row_out, cell_column_out}
use Rattle.pk_octmat.proofs.Tabled.{octagon_entries, octagon_is}
use Rattle.pk_octmat.proofs.Tropical.{at_most_trans, lesser_left}
use Rattle.pk_octops.specs.Guards.{guarded, guard_of}
use Rattle.pk_octops.proofs.Along.{lowered_holds, one_term}
use Rattle.pk_octops.proofs.Kept.{values_kept, written_below}
use Rattle.pk_octops.proofs.Sound.{meets_from, side_of, side_back}
use Rattle.pk_value.specs.Known.{Known}
use Rattle.pk_interval.specs.Ranges.{Range, Holds}
use Rattle.pk_octagons.specs.Packs.{chosen_at}
use Rattle.pk_octagons.specs.Values.{known_at}
use Rattle.pk_octagons.specs.Reduced.{at_most, by_range, by_ranges}

pub at_most_octagon : (m : Octagon) (a : ℕ) (c : ℤ) → IsOctagon m → a < 2 * m.vars → IsOctagon (at_most m a c)
at_most_octagon m a c h p = values_kept.guard_octagon m (at_most m a c) (Some a) None c h p refl

pub at_most_kept : (m : Octagon) (a : ℕ) (c : ℤ) (x : ℕ → ℤ) → Meets (entry m) x → side x a ≤ℤ c → Meets (entry (at_most m a c)) x
at_most_kept m a c x h p =
    meets_from m.vars (guarded (entry m) (Some a) None c) (at_most m a c) x (octagon_entries m.vars (guarded (entry m) (Some a) None c))
    (λ i j id jd. lowered_holds (entry m) (bar a) a (c +ℤ c) x h (one_term x a (bar a) c refl p) i j)

pub at_most_falls : (m : Octagon) (a : ℕ) (c : ℤ) (x : ℕ → ℤ) → IsOctagon m → Meets (entry (at_most m a c)) x → Meets (entry m) x
at_most_falls m a c x h p = record { each = λ i j. by i j (cases_lt i (2 * m.vars)) (cases_lt j (2 * m.vars)) }
  where
    by : (i j : ℕ) → (i < 2 * m.vars) ⊎ (2 * m.vars ≤ i) → (j < 2 * m.vars) ⊎ (2 * m.vars ≤ j) → AtMost (Some (side x j -ℤ side x i)) (entry m i j)
    by i j (inl id) (inl jd) =
        at_most_trans (Some (side x j -ℤ side x i)) (guarded (entry m) (Some a) None c i j) (entry m i j)
        (subst (λ b. AtMost (Some (side x j -ℤ side x i)) b) ((octagon_entries m.vars (guarded (entry m) (Some a) None c)).each i j id jd) (p.each i j))
        (written_below (entry m) (bar a) a (lesser (entry m (bar a) a) (capped (Some (c +ℤ c)))) i j h.whole.coherent.turned (lesser_left (entry m (bar a) a) (capped (Some (c +ℤ c)))))
    by i j (inl id) (inr g) = rw (cell_column_out (2 * m.vars) m.cells i j g) tt
    by i j (inr g) q = rw (cell_row_out (2 * m.vars) m.cells i j g) tt

pub by_range_kept : (m : Octagon) (k : ℕ) (r : Range) (x : ℕ → ℤ) → Meets (entry m) x → Holds r (x k) → Meets (entry (by_range m k r)) x
by_range_kept m k r x h p =
    at_most_kept (at_most m (2 * k) r.hi) (2 * k + 1) (neg_ℤ r.lo) x (at_most_kept m (2 * k) r.hi x h (subst (λ z. z ≤ℤ r.hi) (sym (side_of x k)) p.to))
    (subst (λ z. z ≤ℤ neg_ℤ r.lo) (sym (side_back x k)) (omega (arith, ints, p.from)))

pub by_range_octagon : (m : Octagon) (k : ℕ) (r : Range) → IsOctagon m → k < m.vars → IsOctagon (by_range m k r)
by_range_octagon m k r h p = at_most_octagon (at_most m (2 * k) r.hi) (2 * k + 1) (neg_ℤ r.lo) (at_most_octagon m (2 * k) r.hi h (omega arith)) (omega arith)

pub by_range_falls : (m : Octagon) (k : ℕ) (r : Range) (x : ℕ → ℤ) → IsOctagon m → k < m.vars → Meets (entry (by_range m k r)) x → Meets (entry m) x
by_range_falls m k r x h p q = at_most_falls m (2 * k) r.hi x h (at_most_falls (at_most m (2 * k) r.hi) (2 * k + 1) (neg_ℤ r.lo) x (at_most_octagon m (2 * k) r.hi h (omega arith)) q)

-- ---- the first n variables

pub by_ranges_vars : (l : List ℕ) (vs : List Known) (n : ℕ) (m : Octagon) → (by_ranges l vs n m).vars ≡ m.vars
by_ranges_vars l vs zero m = refl
by_ranges_vars l vs (suc k) m = by_ranges_vars l vs k m

pub by_ranges_octagon : (l : List ℕ) (vs : List Known) (n : ℕ) (m : Octagon) → IsOctagon m → n ≤ m.vars → IsOctagon (by_ranges l vs n m)
by_ranges_octagon l vs zero m h p = h
by_ranges_octagon l vs (suc k) m h p = by_range_octagon (by_ranges l vs k m) k (known_at vs (chosen_at l k)).range (by_ranges_octagon l vs k m h (omega arith)) (omega (arith, by_ranges_vars l vs k m))

pub by_ranges_kept : (l : List ℕ) (vs : List Known) (n : ℕ) (m : Octagon) (x : ℕ → ℤ) → Meets (entry m) x → ((k : ℕ) → k < n → Holds (known_at vs (chosen_at l k)).range (x k)) → Meets (entry (by_ranges l vs n m)) x
by_ranges_kept l vs zero m x h p = h
by_ranges_kept l vs (suc k) m x h p = by_range_kept (by_ranges l vs k m) k (known_at vs (chosen_at l k)).range x (by_ranges_kept l vs k m x h (λ j q. p j (omega arith))) (p k (omega arith))

pub by_ranges_falls : (l : List ℕ) (vs : List Known) (n : ℕ) (m : Octagon) (x : ℕ → ℤ) → IsOctagon m → n ≤ m.vars → Meets (entry (by_ranges l vs n m)) x → Meets (entry m) x
by_ranges_falls l vs zero m x h p q = q
by_ranges_falls l vs (suc k) m x h p q =
    by_ranges_falls l vs k m x h (omega arith)
    (by_range_falls (by_ranges l vs k m) k (known_at vs (chosen_at l k)).range x (by_ranges_octagon l vs k m h (omega arith)) (omega (arith, by_ranges_vars l vs k m)) q)

-- what a guard with a term leaves
pub left_is : (s : Shape) (n r : Octagon) → left_of s n ≡ Some r → n ≡ r
left_is Kept n r e = cc
left_is Empty n r e = absurd (cc)

-- the negative of a number of a type is one of 128 bits
pub negative_is : (t : IntType) (z : ℤ) → InType t z → FitsSigned w128 (pos 0 -ℤ z)
negative_is t z h =
    let size = sized t z h in
    let low : pos 0 ≤ℤ ((pos 0 -ℤ z) +ℤ pos (2 ^ 127)) = omega (arith, ints, size.0, size.1) in
    search (rules, ints)

pub negative_fits : (t : IntType) (z : ℤ) → InType t z → to_z w128 (of_z w128 (pos 0 -ℤ z)) ≡ neg_ℤ z
negative_fits t z h =
    let same : (pos 0 -ℤ z) ≡ neg_ℤ z = omega (arith, ints) in
    to_z-of_z w128 (pos 0 -ℤ z) (negative_is t z h) ∙ same

-- ---- bounds that aren't lowered

-- the number and the place that a test compared
same_place : (a i c j : ℕ) → ((a == i) && (c == j)) ≡ true → (a ≡ i) × (c ≡ j)
same_place a i c j e = by (a == i) refl e
  where
    by : (b : Bool) → (a == i) ≡ b → (b && (c == j)) ≡ true → (a ≡ i) × (c ≡ j)
    by true f g = (grind (arith, f, nat_tests), grind (arith, g, nat_tests))
    by false f g = absurd (cc)

-- writing what is there changes nothing
written_own : (e : ℕ → ℕ → Option ℤ) (i j a c : ℕ) → e i j ≡ e (bar j) (bar i) → written e i j (e i j) a c ≡ e a c
written_own e i j a c turned = by ((a == i) && (c == j)) refl ((a == bar j) && (c == bar i)) refl
  where
    by : (p : Bool) → ((a == i) && (c == j)) ≡ p → (q : Bool) → ((a == bar j) && (c == bar i)) ≡ q → (if p || q then e i j else e a c) ≡ e a c
    by true f q g = let s = same_place a i c j f in ap (λ x. e x j) (sym s.0) ∙ ap (λ y. e a y) (sym s.1)
    by false f true g = let s = same_place a (bar j) c (bar i) g in turned ∙ ap (λ x. e x (bar i)) (sym s.0) ∙ ap (λ y. e a y) (sym s.1)
    by false f false g = refl

pub at_most_same : (m : Octagon) (a : ℕ) (c : ℤ) → IsOctagon m → lesser (entry m (bar a) a) (capped (Some (c +ℤ c))) ≡ entry m (bar a) a → at_most m a c ≡ m
at_most_same m a c h e =
    sym (octagon_is m.vars (guarded (entry m) (Some a) None c) m h (record {
      vars = refl;
      each = λ i j p q. sym (ap (λ b. written (entry m) (bar a) a b i j) e ∙ written_own (entry m) (bar a) a i j (h.whole.coherent.turned (bar a) a));
    }))

pub guard_same : (m : Octagon) (a b : ℕ) (c : ℤ) → IsOctagon m → lesser (entry m (bar b) a) (capped (Some c)) ≡ entry m (bar b) a → guard_of m (Some a) (Some b) c ≡ Some m
guard_same m a b c h e =
    ap (λ (o : Octagon). Some o)
    (sym (octagon_is m.vars (guarded (entry m) (Some a) (Some b) c) m h (record {
      vars = refl;
      each = λ i j p q. sym (ap (λ x. written (entry m) (bar b) a x i j) e ∙ written_own (entry m) (bar b) a i j (h.whole.coherent.turned (bar b) a));
    })))

pub by_range_same : (m : Octagon) (k : ℕ) (r : Range) → IsOctagon m → lesser (entry m (2 * k + 1) (2 * k)) (capped (Some (r.hi +ℤ r.hi))) ≡ entry m (2 * k + 1) (2 * k)
    → lesser (entry m (2 * k) (2 * k + 1)) (capped (Some (neg_ℤ r.lo +ℤ neg_ℤ r.lo))) ≡ entry m (2 * k) (2 * k + 1) → by_range m k r ≡ m
by_range_same m k r h e f =
    let up : bar (2 * k) ≡ 2 * k + 1 = omega arith in
    let down : bar (2 * k + 1) ≡ 2 * k = omega arith in
    ap (λ o. at_most o (2 * k + 1) (neg_ℤ r.lo)) (at_most_same m (2 * k) r.hi h (rw up e)) ∙ at_most_same m (2 * k + 1) (neg_ℤ r.lo) h (rw down f)
