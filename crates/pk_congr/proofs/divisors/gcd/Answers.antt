use Rattle.std.proofs.Common.{◌∙◌, sym, arith}
use Rattle.pk_congr.proofs.Gcd.{gcd_step, gcd_zero}
use Rattle.pk_congr.proofs.divisors.gcd.Goals as goal

pub loop-y-preserved : goal.loop-y-preserved
loop-y-preserved c = sym (gcd_step _ _) ∙ c.loop-y.invariant

pub returns : goal.returns
returns c = sym (gcd_zero _ _ (omega arith)) ∙ c.loop-y.invariant
