-- When a system fits a plan.
use Rattle.std.specs.Prelude.{◌≡◌, ℕ, ◌<◌, ◌⊎◌, Contains}
use Rattle.pk_plan.specs.declared.components.Component.{Component}
use Rattle.pk_plan.specs.Plans.{PlanView, Precedes, Inside}
use Rattle.pk_iterate.specs.Behaviour.{Behaviour}

-- e is the head of a component that holds u, or whose exit u is
pub record IsHeadOver (p : PlanView) (e u : ℕ) : Type 0 where
  pub component : Component
  pub of : Contains p.components component
  pub head : component.head ≡ e
  pub over : Inside p component u ⊎ (u ≡ component.exit)

-- whatever an element reads is the element itself, or precedes it, or lies in the component that it is the head of
abbrev pub FitsPlan : {C : Type 0} → Behaviour C → PlanView → Type 0
FitsPlan b p = (e u : ℕ) → e < p.elements → Contains (b.reads e) u → (u ≡ e) ⊎ (Precedes p u e ⊎ IsHeadOver p e u)
