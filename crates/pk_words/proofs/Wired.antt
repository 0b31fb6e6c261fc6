-- What follows of a plan that a system fits, and of its slots.
use Rattle.std.proofs.Common.{◌≡◌, ℕ, ◌<◌, ◌≤◌, ◌==◌, ◌&&◌, List, [], ◌∷◌, length, count_by, cond, Bool, true, false, refl, ap, arith, inl, inr, ◌⊎◌}
use Rattle.std.proofs.Math.Dec.{leb, ltb}
use Rattle.std.proofs.lemmas.Bool.Decides.{nat_tests}
use Rattle.std.specs.List.Sorted.{IsStrictlyIncreasing}
use Rattle.pk_plan.specs.Plans.{end_of, predecessors_of, successors_of, is_inside}
use Rattle.pk_plan.specs.Shape.{has, shape_of, component_of, exits, holds}
use Rattle.pk_plan.proofs.PlanLemmas.{length-rising, predecessor_within, head_within, stands_inside, is_inside_tells}
use Rattle.pk_plan.proofs.Shapes.{of_exit}
use Rattle.pk_iterate.specs.Behaviour.{Behaviour}
use Rattle.pk_core.proofs.Basics.{same, count_cons}
use Rattle.pk_core.proofs.Moves.{Axioms, Comparable}
use Rattle.pk_core.proofs.Plan_shapes.{plan_shape, comparable, has_of, of_has, rising_rest, none_above, rising_at}
use Rattle.pk_layout.specs.Layouts.{slots_of, owner_of, reader_of}
use Rattle.pk_layout.specs.Wirings.{Wiring, IsWired}
use Rattle.pk_words.specs.Board.{head_of, members_at}

pub axioms_of : {C : Type 0} {b : Behaviour C} {w : Wiring} → IsWired b w → Axioms (shape_of w.plan)
axioms_of {C} {b} {w} wired = plan_shape w.plan wired.axioms

pub fits_of : {C : Type 0} {b : Behaviour C} {w : Wiring} → IsWired b w → Comparable (shape_of w.plan) b.reads
fits_of {C} {b} {w} wired = comparable b w.plan wired.axioms wired.fits

pub last_in : {C : Type 0} {b : Behaviour C} {w : Wiring} → IsWired b w → end_of w.plan < w.plan.elements
last_in wired = let n = wired.axioms.counted in omega (arith, n)

once_in : (u : ℕ) (xs : List ℕ) → IsStrictlyIncreasing xs → count_by (λ w. w == u) xs ≤ 1
once_in u [] rising = omega arith
once_in u (x ∷ xs) rising = by_test (x == u) refl (once_in u xs (rising_rest x xs rising))
  where
    by_test : (t : Bool) → (x == u) ≡ t → count_by (λ w. w == u) xs ≤ 1 → count_by (λ w. w == u) (x ∷ xs) ≤ 1
    by_test true q ih =
        let at : x ≡ u = same x u q in
        let none : count_by (λ w. w == u) xs ≡ 0 = none_above u x xs (omega (arith, at)) rising in
        omega (arith, count_cons (λ w. w == u) x xs, ap {B = ℕ} (λ (c : Bool). cond c 1 0) q, none)
    by_test false q ih = omega (arith, count_cons (λ w. w == u) x xs, ap {B = ℕ} (λ (c : Bool). cond c 1 0) q, ih)

-- counts of predecessors fit 18 bits, and no successor stands twice
pub few_before : {C : Type 0} {b : Behaviour C} {w : Wiring} → IsWired b w → (e : ℕ) → length (predecessors_of w.plan e) < 262144
few_before {C} {b} {w} wired e =
    let most = length-rising (predecessors_of w.plan e) w.plan.elements (rising_at w.plan.predecessors e wired.axioms.predecessors_rise) (λ k l. predecessor_within w.plan e k wired.axioms l) in
    omega (arith, most, wired.few)

pub once_after : {C : Type 0} {b : Behaviour C} {w : Wiring} → IsWired b w → (u v : ℕ) → count_by (λ x. x == v) (successors_of w.plan u) ≤ 1
once_after {C} {b} {w} wired u v = once_in v (successors_of w.plan u) (rising_at w.plan.successors u wired.axioms.successors_rise)

pub slot_read : {C : Type 0} {b : Behaviour C} {w : Wiring} → IsWired b w → (k : ℕ) → k < slots_of w.layout → (reader_of w.layout k ≡ owner_of w.layout k) ⊎ (has (owner_of w.layout k) (b.reads (reader_of w.layout k)) ≡ true)
slot_read {C} {b} {w} wired k in_slots = elim (wired.laid_out.reads k in_slots) [
  | inl own ↦ inl own
  | inr reads ↦ inr (has_of (owner_of w.layout k) (b.reads (reader_of w.layout k)) reads)
]

-- ---- components

and_both : (s t : Bool) → (s && t) ≡ true → (s ≡ true) × (t ≡ true)
and_both true t h = (refl, h)
and_both false t h = absurd (cc)

both_and : (s t : Bool) → s ≡ true → t ≡ true → (s && t) ≡ true
both_and s t e f = rw (e, f) refl

below_tells : (a b : ℕ) → ltb a b ≡ true → a < b
below_tells a b h = grind (arith, nat_tests)

tells_below : (a b : ℕ) → a < b → ltb a b ≡ true
tells_below a b h = grind (arith, nat_tests)

most_tells : (a b : ℕ) → leb a b ≡ true → a ≤ b
most_tells a b h = grind (arith, nat_tests)

pub exit_below : {C : Type 0} {b : Behaviour C} {w : Wiring} → IsWired b w → (x : ℕ) → exits w.plan x ≡ true → x < end_of w.plan
exit_below {C} {b} {w} wired x h =
    let both = and_both (leb w.plan.points x) (ltb x (end_of w.plan)) h in
    below_tells x (end_of w.plan) both.1

-- a member stands in the list of members
pub member_in : {C : Type 0} {b : Behaviour C} {w : Wiring} → IsWired b w → (x e : ℕ) → exits w.plan x ≡ true → has e (members_at w.plan x) ≡ true → holds w.plan x e ≡ true
member_in {C} {b} {w} wired x e exit h =
    let of = of_exit w.plan x exit in
    let i = of_has e (members_at w.plan x) h in
    let at = (stands_inside w.plan (component_of w.plan x) e wired.axioms of i).within in
    both_and (exits w.plan x) (ltb e w.plan.elements && is_inside w.plan (component_of w.plan x) e) exit
    (both_and (ltb e w.plan.elements) (is_inside w.plan (component_of w.plan x) e) (tells_below e w.plan.elements at) ((is_inside_tells w.plan (component_of w.plan x) e wired.axioms of at).1 i))

pub member_of : {C : Type 0} {b : Behaviour C} {w : Wiring} → IsWired b w → (x e : ℕ) → holds w.plan x e ≡ true → has e (members_at w.plan x) ≡ true
member_of {C} {b} {w} wired x e h =
    let both = and_both (exits w.plan x) (ltb e w.plan.elements && is_inside w.plan (component_of w.plan x) e) h in
    let more = and_both (ltb e w.plan.elements) (is_inside w.plan (component_of w.plan x) e) both.1 in
    has_of e (members_at w.plan x) ((is_inside_tells w.plan (component_of w.plan x) e wired.axioms (of_exit w.plan x both.0) (below_tells e w.plan.elements more.0)).0 more.1)

pub member_below : {C : Type 0} {b : Behaviour C} {w : Wiring} → IsWired b w → (x e : ℕ) → holds w.plan x e ≡ true → e < w.plan.elements
member_below {C} {b} {w} wired x e h =
    let both = and_both (exits w.plan x) (ltb e w.plan.elements && is_inside w.plan (component_of w.plan x) e) h in
    let more = and_both (ltb e w.plan.elements) (is_inside w.plan (component_of w.plan x) e) both.1 in
    below_tells e w.plan.elements more.0

pub head_below : {C : Type 0} {b : Behaviour C} {w : Wiring} → IsWired b w → (x : ℕ) → exits w.plan x ≡ true → head_of w.plan x < w.plan.elements
head_below {C} {b} {w} wired x exit = head_within w.plan (component_of w.plan x) wired.axioms (of_exit w.plan x exit)

-- the last element is in no component
pub last_outside : {C : Type 0} {b : Behaviour C} {w : Wiring} → IsWired b w → (x : ℕ) → holds w.plan x (end_of w.plan) ≡ true → ⊥
last_outside {C} {b} {w} wired x h =
    let both = and_both (exits w.plan x) (ltb (end_of w.plan) w.plan.elements && is_inside w.plan (component_of w.plan x) (end_of w.plan)) h in
    wired.axioms.end_outside (component_of w.plan x) (of_exit w.plan x both.0) (of_has (end_of w.plan) (members_at w.plan x) (member_of wired x (end_of w.plan) h))
