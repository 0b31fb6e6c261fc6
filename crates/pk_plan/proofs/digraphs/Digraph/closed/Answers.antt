use Rattle.std.proofs.Common.{subst}
use Rattle.pk_plan.specs.Digraphs.{IsClosed}
use Rattle.pk_plan.proofs.digraphs.Digraph.closed.Goals as goal

pub returns : goal.returns
returns c = subst IsClosed c.self.view_is c.self.invariant.0
