-- What is left has the type of the whole.
use Rattle.std.proofs.Common.{◌≡◌}
use Rattle.pk_typed.specs.Types.{type_of}
use Rattle.pk_typed.specs.Views.{value_tree}
use Rattle.pk_typed.proofs.values.Value.int_type.Given as goal

abbrev pub invariant-loop-value : goal.invariant-loop-value
invariant-loop-value l = type_of (value_tree l.value) ≡ type_of (value_tree l.fn.self)
