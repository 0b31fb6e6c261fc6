use Rattle.pk_order.proofs.Determined.{few_elements, heads_within}
use Rattle.pk_order.proofs.orders.planned.Goals as goal

pub plan-requires-clause-nest : goal.plan-requires-clause-nest
plan-requires-clause-nest c = c.in_ok-nest.ensures

pub returns-clause-heads : goal.returns-clause-heads
returns-clause-heads c = heads_within c.args.graph.now c.in_ok-plan.plan c.axioms.ensures.axioms c.in_ok-plan.ensures.plan.points

pub returns-clause-few : goal.returns-clause-few
returns-clause-few c = few_elements c.args.graph.now c.in_ok-plan.plan c.axioms.ensures.axioms c.in_ok-plan.ensures.plan.points
