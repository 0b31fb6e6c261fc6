use Rattle.std.proofs.Common.{◌≡◌}
use Rattle.std.specs.Prelude.{replicate}
use Rattle.pk_blocks.proofs.group.Group.filled.Given as goal

-- so many blocks
abbrev pub invariant-loop : goal.invariant-loop
invariant-loop g l = l.blocks.items ≡ replicate l.counter l.block
