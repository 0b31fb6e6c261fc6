use Rattle.pk_type.proofs.SignatureLemmas.{next, at_end, parameters_step, parameters_done}
use Rattle.pk_type.proofs.functions.parameters.Goals as goal

pub loop-p-preserved : goal.loop-p-preserved
loop-p-preserved c =
    parameters_step _ _ _ _ _ _ (next c.args.list.now c.loop-p.p-index c.p-item.result c.loop-p-test.true c.p-item.is) c.in_ok-parameter.ensures c.loop-p.invariant

pub returns : goal.returns
returns c = parameters_done _ _ _ (at_end c.args.list.now c.loop-p.p-index c.loop-p-test.false) c.loop-p.invariant
