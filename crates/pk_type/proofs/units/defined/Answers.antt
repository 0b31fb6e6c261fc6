use Rattle.std.proofs.Common.{◌∙◌, ap}
use Rattle.pk_ast.specs.Views.{external_trees}
use Rattle.pk_type.specs.Units.{defined_in}
use Rattle.pk_type.proofs.UnitLemmas.{next, at_end, defined_step, defined_done}
use Rattle.pk_type.proofs.units.defined.Goals as goal

pub loop-external-preserved : goal.loop-external-preserved
loop-external-preserved c =
    defined_step c.args.text.now _ _ _ _ _ _ (next c.args.list.now c.loop-external.external-index c.external-item.result c.loop-external-test.true c.external-item.is) c.in_ok-and_defined.ensures c.loop-external.invariant

pub returns : goal.returns
returns c =
    defined_done c.args.text.now _ _ _ (at_end c.args.list.now c.loop-external.external-index c.loop-external-test.false)
    (c.loop-external.invariant ∙ ap (defined_in c.args.text.now (external_trees c.args.list.now)) c.new-defined.ensures)
