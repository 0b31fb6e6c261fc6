use Rattle.pk_type.proofs.UnitLemmas.{next, at_end, count_step, count_done}
use Rattle.pk_type.proofs.units.objects_in.Goals as goal

pub loop-external-preserved : goal.loop-external-preserved
loop-external-preserved c =
    count_step _ _ _ _ _ _ (next c.args.list.now c.loop-external.external-index c.external-item.result c.loop-external-test.true c.external-item.is) c.in_ok-count.ensures c.loop-external.invariant

pub returns : goal.returns
returns c = count_done _ _ _ (at_end c.args.list.now c.loop-external.external-index c.loop-external-test.false) c.loop-external.invariant
