use Rattle.pk_type_declaration.proofs.ItemLemmas.{next_item, last_item, misfit_left, misfit_found, misfit_none}
use Rattle.pk_type_declaration.proofs.initializers.first_misfit.Goals as goal

pub loop-item-preserved : goal.loop-item-preserved
loop-item-preserved c =
    misfit_left _ _ _ _ _ _ (next_item c.args.list.now c.loop-item.item-index c.item-item.result c.loop-item-test.true c.item-item.is) c.in-Ok.ensures.fits c.loop-item.invariant

pub returns-in-Err : goal.returns-in-Err
returns-in-Err c =
    misfit_found _ _ _ _ _ _ (next_item c.args.list.now c.loop-item.item-index c.item-item.result c.loop-item-test.true c.item-item.is) c.in-Err.ensures.misfit c.loop-item.invariant

pub returns : goal.returns
returns c = misfit_none _ _ _ (last_item c.args.list.now c.loop-item.item-index c.loop-item-test.false) c.loop-item.invariant
