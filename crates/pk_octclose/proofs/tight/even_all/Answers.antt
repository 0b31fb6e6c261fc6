use Rattle.std.proofs.Common.{arith}
use Rattle.pk_octclose.proofs.Halves.{bar_spot, even_more, even_none}
use Rattle.pk_octclose.proofs.tight.even_all.Goals as goal

pub loop-i-init : goal.loop-i-init
loop-i-init g c = record { even = even_none c.args.d c.args.cells.now c.requires.size; steps = omega arith }

pub loop-i-preserved : goal.loop-i-preserved
loop-i-preserved g c = record {
  even = even_more _ _ _ _ _ _ _ c.loop-i.invariant.even c.requires.pairs c.loop-i-test.true (bar_spot _ _ _ c.bar.ensures c.row_place-at.ensures) c.index-cells-at.is c.even_down.ensures;
  steps = omega (arith, c.loop-i.invariant.steps, c.tick.ensures);
}
