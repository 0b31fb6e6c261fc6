use Rattle.std.proofs.Common.{rules}
use Rattle.pk_core_tests.proofs.Driving.{can_step, driven_next}
use Rattle.pk_core_tests.proofs.drives.driven.Goals as goal

pub step-requires-after_bounds : goal.step-requires-after_bounds
step-requires-after_bounds g c κs within = can_step g.Y.System.meaning c.args.system.now c.args.plan.now c.loop-step.step c.loop-step.core c.in-Some.event c.in_ok-enabled-2.field-0 c.loop-step.invariant.core c.in_ok-enabled-2.ensures c.if-not-branch.false (search rules)

pub loop-step-preserved : goal.loop-step-preserved
loop-step-preserved g c = record {
  core = driven_next g.Y.System.meaning c.args.system.now c.args.plan.now c.loop-step.step c.loop-step.core c.step.new.self c.in-Some.event c.loop-step.invariant.core c.in_ok-step.ensures.ok;
  draws = c.next-state.ensures.range;
}
