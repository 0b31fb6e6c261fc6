use Rattle.std.proofs.Common.{◌≡◌}
use Rattle.std.specs.Prelude.{replicate}
use Rattle.pk_blocks.proofs.blocks.filled_groups.Given as goal

-- so many groups
abbrev pub invariant-loop : goal.invariant-loop
invariant-loop g l = l.out.items ≡ replicate l.counter l.group
