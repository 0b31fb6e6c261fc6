use Rattle.std.proofs.Common.{◌∙◌}
use Rattle.std.proofs.lemmas.List.{take_all}
use Rattle.pk_blocks.proofs.Flat.{kept_row}
use Rattle.pk_blocks.proofs.blocks.shared.Goals as goal

pub loop-group-preserved : goal.loop-group-preserved
loop-group-preserved g c = rw c.in_ok-push.ensures.items (kept_row c.loop-group.group-index c.loop-group.out.items c.args.groups.now c.group-item.result _ c.loop-group.invariant c.loop-group-test.true c.group-item.is c.in_ok-share.ensures)

pub returns : goal.returns
returns g c = c.loop-group.invariant ∙ take_all c.loop-group.group-index c.args.groups.now c.loop-group-test.false
