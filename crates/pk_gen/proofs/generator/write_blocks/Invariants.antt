use Rattle.std.proofs.Common.{◌≡◌, ◌<◌, ◌-◌, ◌++◌}
use Rattle.pk_gen.specs.Generator.{blocks as blocks_of}
use Rattle.pk_gen.proofs.generator.write_blocks.Given as goal

-- what is written and what is left are the whole
abbrev pub invariant-loop : goal.invariant-loop
invariant-loop l = (l.state < 2147483648) × (l.bytes.items ++ blocks_of (l.size - l.counter) l.state ≡ l.initial.bytes.items ++ blocks_of l.size l.seed)
