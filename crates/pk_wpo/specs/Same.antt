-- The plan of a digraph doesn't depend on which of its nests is taken.
use Rattle.std.specs.Prelude.{◌≡◌, ℕ, ◌↔◌, List, map, Contains}
use Rattle.pk_plan.specs.declared.components.Component.{Component}
use Rattle.pk_plan.specs.Nests.{Items, Holds}
use Rattle.pk_plan.specs.Plans.{PlanView, Inside, inner_count}
use Rattle.pk_plan.specs.Axioms.{Axioms}
use Rattle.pk_wpo.specs.Made.{IsPlanOf}

-- two nests have the same components, and these hold the same vertices
abbrev pub HoldTheSame : Items → Items → Type 0
HoldTheSame a b = (h u : ℕ) → Holds a h u ↔ Holds b h u

-- two plans have the same constraints and the same components, with the same members and the same counts
pub record AreAlike (p q : PlanView) : Type 0 where
  pub points : p.points ≡ q.points
  pub predecessors : p.predecessors ≡ q.predecessors
  pub successors : p.successors ≡ q.successors
  pub heads : map (λ (c : Component). c.head) p.components ≡ map (λ (c : Component). c.head) q.components
  pub exits : map (λ (c : Component). c.exit) p.components ≡ map (λ (c : Component). c.exit) q.components
  pub members : (c d : Component) (e : ℕ) → Contains p.components c → Contains q.components d → c.head ≡ d.head →
      Inside p c e ↔ Inside q d e
  pub inner : (c d : Component) (e : ℕ) → Contains p.components c → Contains q.components d → c.head ≡ d.head →
      inner_count p c e ≡ inner_count q d e

-- of two nests that hold the same, the plans are alike
abbrev pub PlanIsDetermined : List (List ℕ) → Type 0
PlanIsDetermined g =
    (a b : Items) (p q : PlanView) → HoldTheSame a b → Axioms p → Axioms q → IsPlanOf g a p → IsPlanOf g b q →
    AreAlike p q
