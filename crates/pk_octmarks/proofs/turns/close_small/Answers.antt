use Rattle.std.proofs.Common.{sym, subst}
use Rattle.pk_octclose.proofs.Floyd.{closing_right}
use Rattle.pk_octmarks.specs.Marks.{IsMarked}
use Rattle.pk_octmarks.proofs.turns.close_small.Goals as goal

pub returns-in-Closed-clause-value : goal.returns-in-Closed-clause-value
returns-in-Closed-clause-value c = sym (closing_right.again c.args.m.now c.is_octagon.ensures (subst (λ k. IsMarked k c.args.m.now) c.in-Closed.is c.requires))
