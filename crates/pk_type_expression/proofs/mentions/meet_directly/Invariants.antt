-- What is left decides.
use Rattle.std.proofs.Common.{◌≡◌, drop}
use Rattle.pk_type_expression.specs.Mentions.{meet}
use Rattle.pk_type_expression.proofs.mentions.meet_directly.Given as goal

abbrev pub invariant-loop-y : goal.invariant-loop-y
invariant-loop-y l = meet l.first (drop l.y-index l.second) ≡ meet l.first l.second
