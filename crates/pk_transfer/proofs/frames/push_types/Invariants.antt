use Rattle.std.proofs.Common.{◌≡◌, ◌++◌, replicate}
use Rattle.pk_transfer.proofs.frames.push_types.Given as goal

abbrev pub invariant-loop-made : goal.invariant-loop-made
invariant-loop-made l = l.types.items ≡ l.fn.types.items ++ replicate l.made l.int_type
