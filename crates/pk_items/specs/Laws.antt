-- What is so of the items of every plan, and of what a system reads that fits it.
use Rattle.std.specs.Prelude.{◌≡◌, ℕ, ◌<◌, ◌⊎◌, ◌↔◌, true, Contains}
use Rattle.pk_plan.specs.Plans.{PlanView, end_of}
use Rattle.pk_plan.specs.Axioms.{Axioms}
use Rattle.pk_plan.specs.Shape.{shape_of, holds}
use Rattle.pk_iterate.specs.Behaviour.{Behaviour}
use Rattle.pk_iterate.specs.Fits.{FitsPlan}
use Rattle.pk_items.specs.Items.{top_of, EndsItem}
use Rattle.pk_items.specs.Over.{IsUnder}
use Rattle.pk_items.specs.Sweeping.{IsNear}

-- Each element is its item's last one, or lies in the component whose exit that is; and the last one lies in no component.
pub record TopsAreOutermost (p : PlanView) : Type 0 where
  pub within : (e : ℕ) → e < p.elements → top_of p e < p.elements
  pub under : (e : ℕ) → e < p.elements → IsUnder (shape_of p) (top_of p e) e
  -- there is no other such
  pub one : (x e : ℕ) → e < p.elements → IsUnder (shape_of p) x e → top_of p e ≡ x
  -- an item has its last element, and if that is an exit the members of its component
  pub has : (x e : ℕ) → EndsItem p x → e < p.elements → (top_of p e ≡ x) ↔ ((e ≡ x) ⊎ (holds p x e ≡ true))
  pub end : top_of p (end_of p) ≡ end_of p
  -- and but for END, the last one ends an item
  pub ends : (e : ℕ) → e < end_of p → EndsItem p (top_of p e)

-- so it is in every plan
abbrev pub EveryTopIsOutermost : Type 0
EveryTopIsOutermost = (p : PlanView) → Axioms p → TopsAreOutermost p

-- What an element reads lies in the element's item, or comes before the element.
abbrev pub ReadsAreNear : {C : Type 0} → Behaviour C → Type 0
ReadsAreNear b =
    (p : PlanView) → Axioms p → FitsPlan b p → (e u : ℕ) → e < p.elements → Contains (b.reads e) u
    → IsNear (shape_of p) (top_of p e) e u
