-- Every plan has a linear order.
use Rattle.pk_plan.specs.Order.{Level}
use Rattle.pk_plan.specs.Plans.{PlanView}
use Rattle.pk_plan.specs.Axioms.{Axioms}
use Rattle.pk_plan.specs.Linear.{IsLinear}

abbrev pub EveryPlanHasALinearOrder : Type 0
EveryPlanHasALinearOrder = (p : PlanView) → Axioms p → (order : Level) × IsLinear p order
