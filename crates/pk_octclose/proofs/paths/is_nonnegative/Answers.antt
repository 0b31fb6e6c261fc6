use Rattle.std.proofs.Common.{sym, ap, arith, ◌∙◌, below_more}
use Rattle.pk_octmat.specs.Bounds.{is_negative}
use Rattle.pk_octclose.proofs.Sums.{negative_from}
use Rattle.pk_octclose.proofs.paths.is_nonnegative.Goals as goal

pub returns-then-is_below_zero-clause-no : goal.returns-then-is_below_zero-clause-no
returns-then-is_below_zero-clause-no g c = λ e. record {
  at = c.loop-i.i;
  place = c.loop-i-test.true;
  negative = sym (c.is_below_zero.ensures.value ∙ ap is_negative c.cell.ensures) ∙ c.if-is_below_zero.true;
}

pub loop-i-preserved : goal.loop-i-preserved
loop-i-preserved g c = record {
  each = below_more _ _ c.loop-i.invariant.each (negative_from _ (sym (c.is_below_zero.ensures.value ∙ ap is_negative c.cell.ensures) ∙ c.if-is_below_zero.false));
  steps = omega (arith, c.loop-i.invariant.steps, c.is_below_zero.ensures.steps);
}
