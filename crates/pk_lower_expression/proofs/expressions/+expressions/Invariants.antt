-- What is left, behind the trees of those before it.
use Rattle.std.proofs.Common.{◌≡◌, drop, map}
use Rattle.pk_typed.specs.Views.{value_trees}
use Rattle.pk_graph.specs.Views.{tree_view}
use Rattle.pk_draft.specs.Shown.{drafted}
use Rattle.pk_lower_expression.specs.Expressions.{passed}
use Rattle.pk_lower_row.specs.Views.{context_in}
use Rattle.pk_lower_expression.proofs.CallLemmas.{behind}
use Rattle.pk_lower_expression.proofs.expressions.+expressions.Given as goal

abbrev pub invariant-pass-loop-number : goal.invariant-pass-loop-number
invariant-pass-loop-number l =
    behind (map tree_view l.trees.items) (passed (context_in l.context) (value_trees (drop l.number l.arguments)) (drafted l.draft))
    ≡ passed (context_in l.context) (value_trees l.arguments) (drafted l.initial.draft)
