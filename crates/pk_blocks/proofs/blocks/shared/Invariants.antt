use Rattle.std.proofs.Common.{◌≡◌, take}
use Rattle.pk_blocks.proofs.blocks.shared.Given as goal

-- the groups so far
abbrev pub invariant-loop-group : goal.invariant-loop-group
invariant-loop-group g l = l.out.items ≡ take l.group-index l.groups
