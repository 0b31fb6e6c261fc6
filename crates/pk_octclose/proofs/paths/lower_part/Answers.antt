use Rattle.std.proofs.Common.{arith}
use Rattle.pk_octclose.proofs.Rows.{part_left, part_more, part_none, part_steps}
use Rattle.pk_octclose.proofs.paths.lower_part.Goals as goal

pub loop-j-init : goal.loop-j-init
loop-j-init g c = record { part = part_none c.args.d c.args.k c.args.i c.args.start c.args.first c.args.cells.now c.requires.size; steps = omega arith; none = λ h. omega arith }

pub loop-j-preserved : goal.loop-j-preserved
loop-j-preserved g c = record {
  part =
      part_more _ _ _ _ _ _ _ _ _ _ _ c.loop-j.invariant.part c.requires.pairs c.loop-j.auto.j c.requires.apart (c.requires.beside c.loop-j.j c.loop-j.auto.j c.loop-j-test.true) (omega (arith, c.loop-j-test.true, c.requires.end))
      c.row_bound.ensures c.plus-through.ensures c.lower_cell.ensures.kept c.lower_cell.ensures.here c.lower_cell.ensures.others;
  steps = omega (arith, c.loop-j.invariant.steps, c.loop-j.auto.j, c.lower_cell.ensures.steps);
  none = λ h. absurd (omega (arith, h, c.loop-j-test.true, c.loop-j.auto.j));
}

pub returns-clause-others : goal.returns-clause-others
returns-clause-others g c = part_left _ _ _ _ _ _ _ _ _ c.loop-j.invariant.part c.loop-j.auto.j-end

pub returns-clause-steps : goal.returns-clause-steps
returns-clause-steps g c = part_steps c.args.start c.args.end c.loop-j.j c.args.steps.now c.loop-j.steps c.loop-j.invariant.steps c.loop-j.invariant.none c.loop-j.auto.j-end
