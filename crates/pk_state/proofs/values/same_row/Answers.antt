use Rattle.std.proofs.Common.{refl, arith}
use Rattle.pk_state.proofs.values.same_row.Goals as goal

pub returns : goal.returns
returns c = (λ e r p q. c.loop-r.invariant r (omega (arith, p, q, c.loop-r-test.false, c.min-r-end.ensures)), λ e. refl)
