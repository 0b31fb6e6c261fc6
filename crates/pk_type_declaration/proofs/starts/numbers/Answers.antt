use Rattle.pk_type_declaration.proofs.StartLemmas.{next_expression, last_expression, numbers_walked, numbers_ended, numbers_step, numbers_done}
use Rattle.pk_type_declaration.proofs.starts.numbers.Goals as goal

pub loop-e-preserved : goal.loop-e-preserved
loop-e-preserved c =
    let now = next_expression c.args.list.now c.loop-e.e-index c.e-item.result c.loop-e-test.true c.e-item.is in
    record {
      walked = numbers_walked _ _ _ _ _ _ now c.in_ok-number.ensures.walked c.loop-e.invariant.walked;
      numbers = numbers_step c.args.int_type _ _ _ _ _ _ _ _ now c.in_ok-number.ensures.walked c.in_ok-number.ensures.numbers c.loop-e.invariant.numbers;
    }

pub returns-clause-walked : goal.returns-clause-walked
returns-clause-walked c = numbers_ended _ _ _ (last_expression c.args.list.now c.loop-e.e-index c.loop-e-test.false) c.loop-e.invariant.walked

pub returns-clause-numbers : goal.returns-clause-numbers
returns-clause-numbers c = numbers_done c.args.int_type _ _ _ _ (last_expression c.args.list.now c.loop-e.e-index c.loop-e-test.false) c.loop-e.invariant.numbers
