use Rattle.pk_interval.proofs.Order.{met_left, met_right}
use Rattle.pk_interval.proofs.interval.Interval.meet.Goals as goal

pub returns-clause-left : goal.returns-clause-left
returns-clause-left c = rw c.common.ensures (met_left c.args.self.now c.args.other.now)

pub returns-clause-right : goal.returns-clause-right
returns-clause-right c = rw c.common.ensures (met_right c.args.self.now c.args.other.now)
