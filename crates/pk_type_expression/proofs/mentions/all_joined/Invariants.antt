-- What is left, joined to those so far.
use Rattle.std.proofs.Common.{◌≡◌, drop, map}
use Rattle.pk_type_expression.specs.Mentions.{joined, all_joined}
use Rattle.pk_type_expression.specs.Views.{mentioned_in}
use Rattle.pk_type_expression.proofs.mentions.all_joined.Given as goal

abbrev pub invariant-loop-mentions : goal.invariant-loop-mentions
invariant-loop-mentions l = joined (mentioned_in l.joined) (all_joined (map mentioned_in (drop l.mentions-index l.all))) ≡ all_joined (map mentioned_in l.all)
