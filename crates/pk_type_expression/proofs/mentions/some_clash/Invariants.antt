-- What those so far mention, and what is left decides.
use Rattle.std.proofs.Common.{◌≡◌, drop, map}
use Rattle.pk_type_expression.specs.Mentions.{Mentioned, some_clash}
use Rattle.pk_type_expression.specs.Views.{mentioned_in, IsBefore}
use Rattle.pk_type_expression.proofs.MentionLemmas.{clash_after}
use Rattle.pk_type_expression.proofs.mentions.some_clash.Given as goal

abbrev pub invariant-loop-mentions : goal.invariant-loop-mentions
invariant-loop-mentions l = record {
  so_far : Mentioned;
  is : IsBefore so_far l.before;
  left : clash_after so_far (map mentioned_in (drop l.mentions-index l.all)) ≡ some_clash (map mentioned_in l.all);
}
