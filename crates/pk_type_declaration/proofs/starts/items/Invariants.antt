-- What is left does what the whole does.
use Rattle.std.proofs.Common.{◌≡◌, ◌++◌, drop}
use Rattle.pk_ast.specs.Views.{initializer_item_trees}
use Rattle.pk_type_declaration.specs.Initializers.{items_values}
use Rattle.pk_type_declaration.specs.Views.{walked_in}
use Rattle.pk_type_declaration.specs.Starts.{after_numbers, numbers_at}
use Rattle.pk_type_declaration.specs.Rules.{noting}
use Rattle.pk_type_declaration.proofs.starts.items.Given as goal

abbrev pub invariant-loop-i : goal.invariant-loop-i
invariant-loop-i l =
    let rest = items_values (initializer_item_trees (drop l.i-index l.list)) in
    let all = items_values (initializer_item_trees l.list) in
    record {
      walked : after_numbers noting rest (walked_in l.walk) ≡ after_numbers noting all (walked_in l.initial.walk);
      numbers : l.all.items ++ numbers_at noting l.int_type rest (walked_in l.walk) ≡ l.initial.all.items ++ numbers_at noting l.int_type all (walked_in l.initial.walk);
    }
