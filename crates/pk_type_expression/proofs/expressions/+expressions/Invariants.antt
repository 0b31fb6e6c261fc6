-- What is left, after what is known of those before it.
use Rattle.std.proofs.Common.{◌≡◌, ◌++◌, drop, length}
use Rattle.pk_ast.specs.Views.{expression_trees}
use Rattle.pk_type_expression.specs.Mentions.{mentions_of_each}
use Rattle.pk_type_scope.specs.Scopes.{names_in, scoping_of}
use Rattle.pk_type_expression.specs.Typed.{typed_all}
use Rattle.pk_type_scope.specs.Notes.{noted_in}
use Rattle.pk_type_expression.specs.Views.{after_all, mentioned_in_each, values_in}
use Rattle.pk_type_expression.proofs.WalkLemmas.{appended}
use Rattle.pk_type_expression.proofs.expressions.+expressions.Given as goal

abbrev pub invariant-arguments-loop-e : goal.invariant-arguments-loop-e
invariant-arguments-loop-e l =
    let d = names_in (scoping_of l.scope) in
    let rest = expression_trees (drop l.e-index l.list) in
    let all = expression_trees l.list in
    record {
      notes : after_all d rest (noted_in l.notes) ≡ after_all d all (noted_in l.initial.notes);
      mentions : mentioned_in_each l.all ++ mentions_of_each d rest ≡ mentions_of_each d all;
      values : appended (values_in l.all) (typed_all d (length l.notes.calls.items) rest) ≡ typed_all d (length l.initial.notes.calls.items) all;
    }
