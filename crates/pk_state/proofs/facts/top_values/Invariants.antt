use Rattle.std.proofs.Common.{◌≡◌, ◌++◌, take, drop, map, length}
use Rattle.std.specs.Prelude.{replicate}
use Rattle.pk_ctypes.specs.declared.types.IntType.TheVariants.{Int}
use Rattle.pk_value.specs.Known.{any_of}
use Rattle.pk_state.proofs.facts.top_values.Given as goal

-- so many are written
abbrev pub invariant-loop-x : goal.invariant-loop-x
invariant-loop-x l = l.values ≡ map any_of (take l.x l.frame.types) ++ drop l.x (replicate (length l.frame.types) (any_of Int))
