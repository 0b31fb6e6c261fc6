use Rattle.pk_type.specs.Views.{defined_names}
use Rattle.pk_type.proofs.UnitLemmas.{next, at_end, externals_step, externals_done}
use Rattle.pk_type.proofs.units.externals.Goals as goal

pub loop-one-preserved : goal.loop-one-preserved
loop-one-preserved c =
    externals_step (defined_names c.args.defined.now) _ _ _ _ _ _ (next c.args.list.now c.loop-one.one-index c.one-item.result c.loop-one-test.true c.one-item.is) c.in_ok-external.ensures c.loop-one.invariant

pub returns : goal.returns
returns c = externals_done (defined_names c.args.defined.now) _ _ _ (at_end c.args.list.now c.loop-one.one-index c.loop-one-test.false) c.loop-one.invariant
