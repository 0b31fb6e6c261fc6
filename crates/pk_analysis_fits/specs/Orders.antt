-- Orders of plans.
use Rattle.std.specs.Prelude.{ℕ, ◌<◌, ◌^◌, List, length}
use Rattle.pk_plan.specs.Digraphs.{IsClosed}
use Rattle.pk_plan.specs.Order.{Level}
use Rattle.pk_plan.specs.Plans.{PlanView}
use Rattle.pk_plan.specs.Axioms.{Axioms}
use Rattle.pk_plan.specs.Shape.{shape_of}
use Rattle.pk_plan.specs.Linear.{IsLinear}
use Rattle.pk_order.specs.Ordered.{IsOrdered}
use Rattle.pk_core.specs.Orders.{IsOrderOf}

abbrev pub LinearOrdersAreOrders : Type 0
LinearOrdersAreOrders = (p : PlanView) (order : Level) → Axioms p → IsLinear p order → IsOrderOf (shape_of p) order

-- the plan and the order of a digraph, as the scheduler's core asks for them
pub record IsScheduled (g : List (List ℕ)) : Type 0 where
  pub plan : PlanView
  pub order : Level
  pub ordered : IsOrdered g plan order
  pub axioms : Axioms plan
  pub is_order : IsOrderOf (shape_of plan) order

abbrev pub EveryDigraphIsScheduled : Type 0
EveryDigraphIsScheduled = (g : List (List ℕ)) → IsClosed g → length g < 2 ^ 31 → IsScheduled g
