use Rattle.std.proofs.Common.{arith, w32}
use Rattle.std.proofs.Math.Facts.{Fits-of_lt}
use Rattle.pk_plan.proofs.PlanLemmas.{full_within}
use Rattle.pk_plan.proofs.plans.Plan.full.Goals as goal

pub overflow_cast-result : goal.overflow_cast-result
overflow_cast-result c =
    let few = full_within c.args.self.now c.args.e c.axioms.ensures.axioms c.requires in
    rw c.predecessors.ensures (Fits-of_lt {w = w32} (omega (arith, few)))
