use Rattle.std.proofs.Common.{◌≡◌, map}
use Rattle.pk_typed.specs.Views.{function_tree}
use Rattle.pk_type.specs.Units.{function_of}
use Rattle.pk_type.specs.Views.{entry_tree}
use Rattle.pk_type.proofs.units.functions_of.Given as goal

abbrev pub invariant-loop-entry : goal.invariant-loop-entry
invariant-loop-entry l = map function_tree l.functions.items ≡ map function_of (map entry_tree l.yielded)
