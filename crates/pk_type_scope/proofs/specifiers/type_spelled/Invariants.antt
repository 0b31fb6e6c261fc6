-- What is left is counted on, and no more words were counted than there were.
use Rattle.std.proofs.Common.{◌≡◌, ◌≤◌, ◌+◌, drop}
use Rattle.pk_type_scope.specs.Specifiers.{counts_of, total_of}
use Rattle.pk_type_scope.proofs.specifiers.type_spelled.Given as goal

abbrev pub invariant-loop-specifier : goal.invariant-loop-specifier
invariant-loop-specifier l = record {
  left : counts_of l.counts (drop l.specifier-index l.words.more.items) ≡ counts_of l.initial.counts l.words.more.items;
  bound : total_of l.counts ≤ l.specifier-index + 1;
}
