-- The order in which the elements of a digraph are run (after F. Bourdoncle, 1993, and S. K. Kim, A. J. Venet, A. V. Thakur, 2020).
use Rattle.std.specs.Prelude.{◌≡◌, ℕ, List, map}
use Rattle.pk_plan.specs.declared.components.Component.{Component}
use Rattle.pk_plan.specs.Digraphs.{IsVertex}
use Rattle.pk_plan.specs.Nests.{Items, IsNest}
use Rattle.pk_plan.specs.Order.{Level}
use Rattle.pk_plan.specs.Plans.{PlanView}
use Rattle.pk_plan.specs.Axioms.{Axioms}
use Rattle.pk_wpo.specs.Made.{IsPlanOf}
use Rattle.pk_plan.specs.Linear.{IsLinear}

-- the plan of the digraph's nest
pub record IsPlanned (g : List (List ℕ)) (plan : PlanView) : Type 0 where
  pub nest : Items
  pub is_nest : IsNest g (IsVertex g) nest
  pub axioms : Axioms plan
  pub is_plan : IsPlanOf g nest plan

-- that plan, and its linear order
pub record IsOrdered (g : List (List ℕ)) (plan : PlanView) (order : Level) : Type 0 where
  pub nest : Items
  pub is_nest : IsNest g (IsVertex g) nest
  pub axioms : Axioms plan
  pub is_plan : IsPlanOf g nest plan
  pub is_linear : IsLinear plan order

-- the heads of the components, in rising order
abbrev pub heads_of : PlanView → List ℕ
heads_of p = map (λ (c : Component). c.head) p.components

-- A digraph has one order: its plans have the same heads and elements, and the same linear order.
pub record OrderIsDetermined : Type 0 where
  pub heads : (g : List (List ℕ)) (p q : PlanView) (one other : Level) → IsOrdered g p one → IsOrdered g q other →
      heads_of p ≡ heads_of q
  pub elements : (g : List (List ℕ)) (p q : PlanView) (one other : Level) → IsOrdered g p one → IsOrdered g q other →
      p.elements ≡ q.elements
  pub order : (g : List (List ℕ)) (p q : PlanView) (one other : Level) → IsOrdered g p one → IsOrdered g q other →
      one ≡ other
