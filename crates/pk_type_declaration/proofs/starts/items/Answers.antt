use Rattle.pk_type_declaration.proofs.ItemLemmas.{next_item, last_item}
use Rattle.pk_type_declaration.proofs.StartLemmas.{items_walked, items_ended, items_step, items_done}
use Rattle.pk_type_declaration.proofs.starts.items.Goals as goal

pub loop-i-preserved : goal.loop-i-preserved
loop-i-preserved c =
    let now = next_item c.args.list.now c.loop-i.i-index c.i-item.result c.loop-i-test.true c.i-item.is in
    record {
      walked = items_walked _ _ _ _ _ _ now c.in_ok-item.ensures.walked c.loop-i.invariant.walked;
      numbers = items_step c.args.int_type _ _ _ _ _ _ _ _ now c.in_ok-item.ensures.walked c.in_ok-item.ensures.numbers c.loop-i.invariant.numbers;
    }

pub returns-clause-walked : goal.returns-clause-walked
returns-clause-walked c = items_ended _ _ _ (last_item c.args.list.now c.loop-i.i-index c.loop-i-test.false) c.loop-i.invariant.walked

pub returns-clause-numbers : goal.returns-clause-numbers
returns-clause-numbers c = items_done c.args.int_type _ _ _ _ (last_item c.args.list.now c.loop-i.i-index c.loop-i-test.false) c.loop-i.invariant.numbers
