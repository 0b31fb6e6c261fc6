-- What is left does what the whole does.
use Rattle.std.proofs.Common.{◌≡◌, drop}
use Rattle.pk_ast.specs.Views.{initializer_item_trees}
use Rattle.pk_typed.specs.Views.{optional_values}
use Rattle.pk_type_declaration.specs.Initializers.{items_values}
use Rattle.pk_type_declaration.specs.Views.{walked_in}
use Rattle.pk_type_declaration.specs.Walks.{after_values, values_at}
use Rattle.pk_type_declaration.specs.Rules.{noting}
use Rattle.pk_type_expression.proofs.WalkLemmas.{appended}
use Rattle.pk_type_declaration.proofs.walk.Walk.items.Given as goal

abbrev pub invariant-loop-item : goal.invariant-loop-item
invariant-loop-item l =
    let rest = items_values (initializer_item_trees (drop l.item-index l.list)) in
    let all = items_values (initializer_item_trees l.list) in
    record {
      walked : after_values noting rest (walked_in l.self) ≡ after_values noting all (walked_in l.initial.self);
      values : appended (optional_values l.all) (values_at (walked_in l.self) rest) ≡ values_at (walked_in l.initial.self) all;
    }
