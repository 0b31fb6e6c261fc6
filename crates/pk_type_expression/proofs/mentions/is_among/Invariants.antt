-- What is left decides.
use Rattle.std.proofs.Common.{◌≡◌, drop}
use Rattle.pk_type_expression.specs.Mentions.{is_among}
use Rattle.pk_type_expression.proofs.mentions.is_among.Given as goal

abbrev pub invariant-loop-y : goal.invariant-loop-y
invariant-loop-y l = is_among (drop l.y-index l.xs) l.x ≡ is_among l.xs l.x
