use Rattle.pk_interval.proofs.Wrappable.{can_wrap}
use Rattle.pk_interval.proofs.operators.binary.Goals as goal

pub returns-clause-least : goal.returns-clause-least
returns-clause-least c = rw c.by_operator.ensures (can_wrap c.args.op c.args.t c.args.a.now c.args.b.now c.requires.left c.requires.right)
