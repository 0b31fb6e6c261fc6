use Rattle.pk_interval.proofs.Wrappable.{right_in}
use Rattle.pk_domain_tests.proofs.intervals.outcome_at.Goals as goal

pub binary-requires-clause-right : goal.binary-requires-clause-right
binary-requires-clause-right c = right_in c.args.op c.args.t c.args.b.now c.requires.right
