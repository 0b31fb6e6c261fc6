use Rattle.std.proofs.Common.{◌∙◌, arith}
use Rattle.pk_octmat.proofs.Blanks.{blanked_half, blanked_more, blanked_none}
use Rattle.pk_octmat.proofs.matrix.blank.Goals as goal

pub loop-i-init : goal.loop-i-init
loop-i-init c = blanked_none c.args.d c.loop-cell.cell-index c.loop-cell.cells c.requires.pairs (c.loop-cell.auto.cells ∙ c.requires.size) (omega (arith, c.loop-cell-test.false)) c.loop-cell.invariant

pub loop-i-preserved : goal.loop-i-preserved
loop-i-preserved c = blanked_more _ _ _ _ _ c.requires.pairs c.loop-i.invariant c.loop-i-test.true c.spot.ensures c.unbounded.ensures

pub returns-clause-whole : goal.returns-clause-whole
returns-clause-whole c = blanked_half _ _ _ c.requires.pairs c.loop-i.invariant c.loop-i-test.false
