-- What the core asks of a plan's shape, and of what a system reads.
use Rattle.std.proofs.Common.{◌≡◌, ℕ, zero, suc, ◌+◌, ◌<◌, ◌≤◌, ◌==◌, ◌||◌, inl, inr, List, [], ◌∷◌, length, count_by, get_or, Bool, true, false, cond, refl, sym, ap, subst, ◌∙◌, arith, All, Contains}
use Rattle.std.specs.List.{slice_index_or}
use Rattle.std.specs.List.Sorted.{IsStrictlyIncreasing}
use Rattle.pk_plan.specs.Plans.{PlanView, predecessors_of, Precedes, One, More}
use Rattle.pk_plan.specs.Axioms.{Axioms as PlanAxioms}
use Rattle.pk_plan.specs.Shape.{has, Before, one, more, shape_of}
use Rattle.pk_plan.proofs.PlanLemmas.{head_inside}
use Rattle.pk_plan.proofs.Shapes.{shapes}
use Rattle.pk_iterate.specs.Behaviour.{Behaviour}
use Rattle.pk_iterate.specs.Fits.{FitsPlan, IsHeadOver}
use Rattle.pk_core.proofs.Basics.{same, itself, neq, or_right, count_cons}
use Rattle.pk_core.proofs.Moves.{Axioms, Comparable}

-- ---- standing in a list, as a test and as a fact

pub has_of : (u : ℕ) (ws : List ℕ) → Contains ws u → has u ws ≡ true
has_of u [] c = absurd (omega (arith, c.1))
has_of u (w ∷ ws) c = by c.0 c.1 c.2 (has_of u ws)
  where
    by : (k : ℕ) → k < suc (length ws) → get_or (w ∷ ws) k u ≡ u → (Contains ws u → has u ws ≡ true) → has u (w ∷ ws) ≡ true
    by zero in_range is rest = rw (sym is, itself w) refl
    by (suc k) in_range is rest = or_right (u == w) (has u ws) (rest (k, omega arith, is))

pub of_has : (u : ℕ) (ws : List ℕ) → has u ws ≡ true → Contains ws u
of_has u [] h = absurd (cc)
of_has u (w ∷ ws) h = by (u == w) refl h (of_has u ws)
  where
    by : (t : Bool) → (u == w) ≡ t → (t || has u ws) ≡ true → (has u ws ≡ true → Contains ws u) → Contains (w ∷ ws) u
    by true is h rest = (0, omega arith, sym (same u w is))
    by false is h rest = let c = rest h in (suc c.0, omega (arith, c.1), c.2)

-- ---- a predecessor stands once

pub rising_rest : (x : ℕ) (xs : List ℕ) → IsStrictlyIncreasing (x ∷ xs) → IsStrictlyIncreasing xs
rising_rest x xs rising = λ k l.
    let same : suc k + 1 ≡ suc (k + 1) = omega arith in
    subst (λ (j : ℕ). get_or xs k 0 < get_or (x ∷ xs) j 0) same (rising (suc k) (omega (arith, l)))

pub none_above : (u x : ℕ) (xs : List ℕ) → u ≤ x → IsStrictlyIncreasing (x ∷ xs) → count_by (λ w. w == u) xs ≡ 0
none_above u x [] le rising = refl
none_above u x (y ∷ ys) le rising =
    let up : x < y = rising 0 (omega arith) in
    let other : (y == u) ≡ false = neq y u (λ e. absurd (omega (arith, e, up, le))) in
    let later : count_by (λ w. w == u) ys ≡ 0 = none_above u y ys (omega (arith, up, le)) (rising_rest x (y ∷ ys) rising) in
    count_cons (λ w. w == u) y ys ∙ rw (other, later) refl

once_in : (u : ℕ) (xs : List ℕ) → IsStrictlyIncreasing xs → has u xs ≡ true → count_by (λ w. w == u) xs ≡ 1
once_in u [] rising h = absurd (cc)
once_in u (x ∷ xs) rising h = count_cons (λ w. w == u) x xs ∙ by (u == x) refl h (once_in u xs (rising_rest x xs rising))
  where
    by : (t : Bool) → (u == x) ≡ t → (t || has u xs) ≡ true → (has u xs ≡ true → count_by (λ w. w == u) xs ≡ 1) → cond (x == u) 1 0 + count_by (λ w. w == u) xs ≡ 1
    by true is h rest =
        let at : u ≡ x = same u x is in
        let here : (x == u) ≡ true = ap (λ (k : ℕ). k == u) (sym at) ∙ itself u in
        let later : count_by (λ w. w == u) xs ≡ 0 = none_above u x xs (omega (arith, at)) rising in
        rw (here, later) refl
    by false is h rest =
        let other : (x == u) ≡ false = neq x u (λ e. absurd (let t : (u == x) ≡ true = ap (λ (k : ℕ). k == x) (sym e) ∙ itself x in cc)) in
        let later = rest h in
        rw (other, later) refl

pub rising_at : (rows : List (List ℕ)) (v : ℕ) → All IsStrictlyIncreasing rows → IsStrictlyIncreasing (slice_index_or rows v [])
rising_at [] v all = λ k l. absurd (omega (arith, l))
rising_at (row ∷ rows) zero all = all 0 [] (omega arith)
rising_at (row ∷ rows) (suc v) all = rising_at rows v (λ k d l. all (suc k) d (omega (arith, l)))

pub plan_shape : (p : PlanView) → PlanAxioms p → Axioms (shape_of p)
plan_shape p axioms = record {
  shape = shapes p axioms;
  once = λ u v h. once_in u (predecessors_of p v) (rising_at p.predecessors v axioms.predecessors_rise) h;
}

-- ---- what a system reads that fits the plan

before_of : (p : PlanView) (a b : ℕ) → PlanAxioms p → Precedes p a b → Before (shape_of p) a b
before_of p a b axioms (One c) = one (has_of a (predecessors_of p b) (axioms.to_predecessor a b c))
before_of p a b axioms (More {b = w} m c) = more (before_of p a w axioms m) (has_of w (predecessors_of p b) (axioms.to_predecessor w b c))

pub comparable : {C : Type 0} (b : Behaviour C) (p : PlanView) → PlanAxioms p → FitsPlan b p → Comparable (shape_of p) b.reads
comparable b p axioms fits e u below h ne = elim (fits e u below (of_has u (b.reads e) h)) [
  | inl is ↦ absurd (ne is)
  | inr other ↦ elim other [ inl before ↦ inl (before_of p u e axioms before) | inr head ↦ inr (under head) ]
]
  where
    under : IsHeadOver p e u → Before (shape_of p) e u
    under head =
        let c = head.component in
        let lead : Precedes p c.head u = elim head.over [
          | inl inside ↦ axioms.after_head c u head.of inside (λ is. ne (is ∙ head.head))
          | inr exit ↦ subst (λ (k : ℕ). Precedes p c.head k) (sym exit) (axioms.before_exit c c.head head.of (head_inside p c axioms head.of))
        ] in
        before_of p e u axioms (subst (λ (k : ℕ). Precedes p k u) head.head lead)
