use Rattle.std.proofs.Common.{◌∙◌, ◌<◌, get_or, map, refl, arith}
use Rattle.pk_plan.specs.Plans.{members_of}
use Rattle.pk_core.specs.Entries.{standing_of}
use Rattle.pk_core.proofs.Restarting.{member_below, rearm_step, rearm_done}
use Rattle.pk_core.proofs.restarts.rearm.Goals as goal

pub members-e-items-requires : goal.members-e-items-requires
members-e-items-requires g c = c.requires.component

pub loop-e-init : goal.loop-e-init
loop-e-init g c = refl

pub armed-requires : goal.armed-requires
armed-requires g c = member_below c.args.plan.now c.args.component.now c.members-e-items.result.now c.loop-e.e-index c.axioms.ensures.axioms c.requires.component c.members-e-items.ensures c.loop-e-test.true

pub set_status-requires : goal.set_status-requires
set_status-requires g c =
    let below : get_or c.members-e-items.result.now c.loop-e.e-index 0 < c.args.plan.now.elements = member_below c.args.plan.now c.args.component.now c.members-e-items.result.now c.loop-e.e-index c.axioms.ensures.axioms c.requires.component c.members-e-items.ensures c.loop-e-test.true in
    omega (arith, below, c.loop-e.auto.entries, c.requires.long)

pub loop-e-preserved : goal.loop-e-preserved
loop-e-preserved g c =
    c.set_status.ensures
    ∙ rearm_step c.args.plan.now c.args.component.now (members_of c.args.plan.now c.args.component.now) c.members-e-items.result.now c.loop-e.e-index (map standing_of c.args.entries.now) (map standing_of c.loop-e.entries) c.armed.result
    c.members-e-items.ensures c.loop-e-test.true c.loop-e.invariant c.armed.ensures

pub returns : goal.returns
returns g c =
    rearm_done c.args.plan.now c.args.component.now (members_of c.args.plan.now c.args.component.now) c.members-e-items.result.now c.loop-e.e-index (map standing_of c.args.entries.now) (map standing_of c.loop-e.entries)
    c.members-e-items.ensures c.loop-e-test.false c.loop-e.invariant
