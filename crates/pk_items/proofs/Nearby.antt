-- What an element reads lies in its item, or comes before it.
use Rattle.std.proofs.Common.{◌≡◌, ℕ, ◌<◌, ◌⊎◌, inl, inr, true, ap, sym, subst, ◌∙◌}
use Rattle.pk_plan.specs.Plans.{PlanView, Precedes, One, More, predecessors_of, Inside}
use Rattle.pk_plan.specs.Axioms.{Axioms}
use Rattle.pk_plan.specs.Shape.{Before, one, more, holds, shape_of}
use Rattle.pk_plan.proofs.PlanLemmas.{exit_within, head_inside, is_inside_tells, stands_inside}
use Rattle.pk_iterate.specs.Behaviour.{Behaviour}
use Rattle.pk_iterate.specs.Fits.{IsHeadOver}
use Rattle.pk_core.proofs.Plan_shapes.{has_of}
use Rattle.pk_items.specs.Items.{top_of}
use Rattle.pk_items.specs.Sweeping.{IsNear}
use Rattle.pk_items.specs.Laws.{ReadsAreNear}
use Rattle.pk_items.proofs.Outermost.{holds_by, under_top, member_top}

before_of : (p : PlanView) (a b : ℕ) → Axioms p → Precedes p a b → Before (shape_of p) a b
before_of p a b axioms (One c) = one (has_of a (predecessors_of p b) (axioms.to_predecessor a b c))
before_of p a b axioms (More {b = w} m c) = more (before_of p a w axioms m) (has_of w (predecessors_of p b) (axioms.to_predecessor w b c))

near_by : (p : PlanView) (x e u : ℕ) → (u ≡ x) ⊎ (holds p x u ≡ true) → IsNear (shape_of p) x e u
near_by p x e u (inl is) = inl is
near_by p x e u (inr inside) = inr (inl inside)

holds_inside : (p : PlanView) {e u : ℕ} → Axioms p → (head : IsHeadOver p e u) → (v : ℕ) → Inside p head.component v → holds p head.component.exit v ≡ true
holds_inside p axioms head v inside =
    let low = (stands_inside p head.component v axioms head.of inside).within in
    holds_by p axioms head.component head.of v low ((is_inside_tells p head.component v axioms head.of low).1 inside)

pub reads_are_near : {C : Type 0} (b : Behaviour C) → ReadsAreNear b
reads_are_near b p axioms fits e u low reads = elim (fits e u low reads) [
  | inl is ↦ near_by p (top_of p e) e u (under_top p axioms (top_of p e) u (subst (λ (k : ℕ). k < p.elements) (sym is) low) (ap (top_of p) is))
  | inr (inl before) ↦ inr (inr (before_of p u e axioms before))
  | inr (inr head) ↦ under head
]
  where
    under : IsHeadOver p e u → IsNear (shape_of p) (top_of p e) e u
    under head =
        let c = head.component in
        let e_top : top_of p e ≡ top_of p c.exit = member_top p axioms c.exit e (subst (λ (k : ℕ). holds p c.exit k ≡ true) head.head (holds_inside p axioms head c.head (head_inside p c axioms head.of))) in
        elim head.over [
          | inl inside ↦
              let u_top = member_top p axioms c.exit u (holds_inside p axioms head u inside) in
              near_by p (top_of p e) e u (under_top p axioms (top_of p e) u (stands_inside p c u axioms head.of inside).within (u_top ∙ sym e_top))
          | inr is ↦
              near_by p (top_of p e) e u (under_top p axioms (top_of p e) u (subst (λ (k : ℕ). k < p.elements) (sym is) (exit_within p c axioms head.of)) (ap (top_of p) is ∙ sym e_top))
        ]
