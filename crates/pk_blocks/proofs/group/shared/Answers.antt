use Rattle.std.proofs.Common.{◌∙◌}
use Rattle.std.proofs.lemmas.List.{take_all}
use Rattle.pk_blocks.proofs.Flat.{kept_row}
use Rattle.pk_blocks.proofs.group.shared.Goals as goal

pub loop-block-preserved : goal.loop-block-preserved
loop-block-preserved g c = rw c.in_ok-push.ensures.items (kept_row c.loop-block.block-index c.loop-block.out.items c.args.blocks.now c.block-item.result _ c.loop-block.invariant c.loop-block-test.true c.block-item.is c.in_ok-share.ensures)

pub returns : goal.returns
returns g c = c.loop-block.invariant ∙ take_all c.loop-block.block-index c.args.blocks.now c.loop-block-test.false
