use Rattle.std.proofs.Common.{arith}
use Rattle.pk_octclose.proofs.Lowered.{run_more}
use Rattle.pk_octclose.proofs.after.lower_line.Goals as goal

pub loop-b-preserved : goal.loop-b-preserved
loop-b-preserved g c = record {
  line = run_more _ _ _ _ _ _ _ _ _ c.loop-b.invariant.line (omega (arith, c.loop-b-test.true, c.requires.few)) c.index-line-b.is c.cell.ensures c.plus.ensures c.lower_to.ensures.value;
  steps = omega (arith, c.loop-b.invariant.steps, c.lower_to.ensures.steps);
}
