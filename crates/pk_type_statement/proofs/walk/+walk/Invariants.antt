-- What is left does what the whole does.
use Rattle.std.proofs.Common.{◌≡◌, drop}
use Rattle.pk_ast.specs.Views.{item_trees}
use Rattle.pk_type_jump.specs.Views.{labels_in}
use Rattle.pk_type_statement.specs.Items.{and_items}
use Rattle.pk_type_statement.specs.Statements.{after_items}
use Rattle.pk_type_statement.specs.Trees.{typed_items}
use Rattle.pk_type_statement.specs.Views.{passed_in, items_in}
use Rattle.pk_type_statement.specs.Rules.{noting}
use Rattle.pk_type_statement.proofs.walk.+walk.Given as goal

abbrev pub invariant-body_items-loop-item : goal.invariant-body_items-loop-item
invariant-body_items-loop-item l =
    let rest = item_trees (drop l.item-index l.list) in
    let all = item_trees l.list in
    let labels = labels_in l.around.labels.now in
    record {
      passed : after_items noting l.around.returns (passed_in l.to) rest ≡ after_items noting l.around.returns (passed_in l.initial.to) all;
      trees : and_items (items_in l.all) (typed_items noting l.around.returns labels (passed_in l.to) rest)
          ≡ and_items (items_in l.initial.all) (typed_items noting l.around.returns labels (passed_in l.initial.to) all);
    }
