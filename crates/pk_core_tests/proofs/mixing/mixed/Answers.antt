use Rattle.std.proofs.Common.{ap, ◌∙◌}
use Rattle.pk_core_tests.specs.Mixing.{mixed_more}
use Rattle.pk_core_tests.proofs.Driving.{mixed_step}
use Rattle.pk_core_tests.proofs.mixing.mixed.Goals as goal

pub loop-cell-preserved : goal.loop-cell-preserved
loop-cell-preserved c = record {
  left = mixed_step c.args.cells.now c.loop-cell.cell-index c.args.first c.loop-cell.so_far c.mixed_more-so_far.result c.cell-item.result c.loop-cell-test.true c.cell-item.is (c.mixed_more-so_far.ensures.mixed ∙ ap (mixed_more c.loop-cell.so_far) c.deref.ensures) c.loop-cell.invariant.left;
  few = c.mixed_more-so_far.ensures.few;
}
