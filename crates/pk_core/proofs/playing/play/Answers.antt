use Rattle.std.proofs.Common.{rules}
use Rattle.pk_core.proofs.Played_on.{can_step, played_next, refused_here, all_played}
use Rattle.pk_core.proofs.playing.play.Goals as goal

pub step-requires-after_bounds : goal.step-requires-after_bounds
step-requires-after_bounds g c κs within = can_step g.Y.System.meaning c.args.system.now c.args.plan.now c.args.events.now c.loop-place.place c.loop-place.core c.in_ok-enabled.field-0 c.loop-place.invariant c.in_ok-enabled.ensures c.if-not-branch.false (search rules)

pub loop-place-preserved : goal.loop-place-preserved
loop-place-preserved g c = played_next g.Y.System.meaning c.args.system.now c.args.plan.now c.args.events.now c.loop-place.place c.loop-place.core c.step.new.self c.in_ok-enabled.field-0 c.loop-place.invariant c.loop-place-test.true c.in_ok-enabled.ensures c.if-not-branch.false c.in_ok-step.ensures.ok

pub returns-then-not-branch-clause-refused : goal.returns-then-not-branch-clause-refused
returns-then-not-branch-clause-refused g c = refused_here g.Y.System.meaning c.args.system.now c.args.plan.now c.args.events.now c.loop-place.place c.loop-place.core c.in_ok-enabled.field-0 c.loop-place.invariant c.loop-place-test.true c.in_ok-enabled.ensures c.if-not-branch.true

pub returns-clause-enabled : goal.returns-clause-enabled
returns-clause-enabled g c = (all_played g.Y.System.meaning c.args.system.now c.args.plan.now c.args.events.now c.loop-place.place c.loop-place.core c.loop-place.invariant (search rules)).0

pub returns-clause-played : goal.returns-clause-played
returns-clause-played g c = (all_played g.Y.System.meaning c.args.system.now c.args.plan.now c.args.events.now c.loop-place.place c.loop-place.core c.loop-place.invariant (search rules)).1
