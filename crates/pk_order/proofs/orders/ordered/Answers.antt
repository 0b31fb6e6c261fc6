use Rattle.pk_order.proofs.ConditionLemmas.{is_weak_topological_order}
use Rattle.pk_order.proofs.orders.ordered.Goals as goal

pub returns-clause-ordered : goal.returns-clause-ordered
returns-clause-ordered c =
    let p = c.in_ok-plan.ensures.planned in
    record { nest = p.nest; is_nest = p.is_nest; axioms = p.axioms; is_plan = p.is_plan; is_linear = c.in_ok-order.ensures.linear }

pub returns-clause-condition : goal.returns-clause-condition
returns-clause-condition c =
    is_weak_topological_order c.in_ok-plan.plan c.in_ok-order.order.order c.in_ok-plan.ensures.planned.axioms c.in_ok-order.ensures.linear c.in_ok-order.ensures.forward c.args.graph.now c.in_ok-plan.ensures.fits
