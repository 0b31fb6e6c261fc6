-- What is left decides.
use Rattle.std.proofs.Common.{◌≡◌, drop, map}
use Rattle.pk_type_expression.specs.Mentions.{change_nothing}
use Rattle.pk_type_expression.specs.Views.{mentioned_in}
use Rattle.pk_type_expression.proofs.mentions.changes_nothing.Given as goal

abbrev pub invariant-loop-mentions : goal.invariant-loop-mentions
invariant-loop-mentions l = change_nothing (map mentioned_in (drop l.mentions-index l.all)) ≡ change_nothing (map mentioned_in l.all)
