use Rattle.std.proofs.Common.{◌≡◌, take}
use Rattle.pk_blocks.proofs.group.shared.Given as goal

-- the blocks so far
abbrev pub invariant-loop-block : goal.invariant-loop-block
invariant-loop-block g l = l.out.items ≡ take l.block-index l.blocks
