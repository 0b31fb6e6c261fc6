use Rattle.std.proofs.Common.{refl, ap, Some}
use Rattle.pk_typed.specs.Views.{value_trees}
use Rattle.pk_type_expression.proofs.WalkLemmas.{begin_values}
use Rattle.pk_type_declaration.specs.Views.{walked_in}
use Rattle.pk_type_declaration.proofs.ItemLemmas.{next_item, last_item}
use Rattle.pk_type_declaration.proofs.InitializerLemmas.{trees_together, items_walked, items_ended, items_typed, items_done}
use Rattle.pk_type_declaration.proofs.walk.Walk.items.Goals as goal

pub loop-item-init : goal.loop-item-init
loop-item-init c = record { walked = refl; values = begin_values _ _ (ap (λ xs. Some (value_trees xs)) c.new.ensures.items) }

pub loop-item-preserved : goal.loop-item-preserved
loop-item-preserved c =
    let now = next_item c.args.list.now c.loop-item.item-index c.item-item.result c.loop-item-test.true c.item-item.is in
    record {
      walked = items_walked _ _ _ _ _ _ now c.in_ok-values.ensures.walked c.loop-item.invariant.walked;
      values = items_typed _ _ _ _ _ _ _ _ _ now c.in_ok-values.ensures.walked c.in_ok-values.ensures.values (trees_together _ _ _ c.in_ok-all.ensures) c.loop-item.invariant.values;
    }

pub returns-clause-walked : goal.returns-clause-walked
returns-clause-walked c = items_ended _ _ _ (last_item c.args.list.now c.loop-item.item-index c.loop-item-test.false) c.loop-item.invariant.walked

pub returns-clause-values : goal.returns-clause-values
returns-clause-values c = items_done _ (walked_in c.loop-item.self) _ _ (last_item c.args.list.now c.loop-item.item-index c.loop-item-test.false) c.loop-item.invariant.values
