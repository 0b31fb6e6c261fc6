-- What is left decides.
use Rattle.std.proofs.Common.{◌≡◌, drop}
use Rattle.std.specs.List.{list_any}
use Rattle.pk_type_expression.specs.Views.{has}
use Rattle.pk_type_expression.proofs.mentions.Objects.meets.Given as goal

abbrev pub invariant-loop-x : goal.invariant-loop-x
invariant-loop-x l = list_any (has l.self) (drop l.x-index l.xs) ≡ list_any (has l.self) l.xs
