-- What is left is among them.
use Rattle.std.proofs.Common.{◌≡◌, ◌||◌, drop}
use Rattle.pk_typed.specs.declared.values.Variable.{Variable}
use Rattle.pk_type_expression.specs.Mentions.{is_among}
use Rattle.pk_type_expression.specs.Views.{has}
use Rattle.pk_type_expression.proofs.mentions.Objects.add_all.Given as goal

abbrev pub invariant-loop-x : goal.invariant-loop-x
invariant-loop-x l = (y : Variable) → (is_among (drop l.x-index l.xs) y || has l.self y) ≡ (is_among l.xs y || has l.initial.self y)
