-- The order of a digraph: of its nest a plan, and of that a linear order.
use Rattle.pk_plan.specs.Digraphs.{IsVertex}
use Rattle.pk_plan.specs.Nests.{Items, IsNest}
use Rattle.pk_plan.specs.Order.{Level}
use Rattle.pk_plan.specs.Plans.{PlanView}
use Rattle.pk_plan.specs.Axioms.{Axioms}
use Rattle.pk_wpo.specs.Made.{IsPlanOf}
use Rattle.pk_plan.specs.Linear.{IsLinear}
use Rattle.pk_order_laws.specs.Digraphs.{EveryDigraphHasAnOrder}
use Rattle.pk_order_laws.proofs.Nesting.{every_digraph_has_a_nest}
use Rattle.pk_order_laws.proofs.Drawing.{every_nest_has_a_plan}
use Rattle.pk_order_laws.proofs.Placing.{every_plan_has_a_linear_order}

pub every_digraph_has_an_order : EveryDigraphHasAnOrder
every_digraph_has_an_order = λ g closed few.
    let n : (items : Items) × IsNest g (IsVertex g) items = every_digraph_has_a_nest g in
    let d : (p : PlanView) × Axioms p × IsPlanOf g n.0 p = every_nest_has_a_plan g n.0 closed few n.1 in
    let o : (order : Level) × IsLinear d.0 order = every_plan_has_a_linear_order d.0 d.1 in
    (d.0, o.0, record { nest = n.0; is_nest = n.1; axioms = d.1; is_plan = d.2; is_linear = o.1 })
