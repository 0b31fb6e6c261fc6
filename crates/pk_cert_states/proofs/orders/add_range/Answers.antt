use Rattle.pk_cert_states.proofs.Ordering.{range_on}
use Rattle.pk_cert_states.proofs.orders.add_range.Goals as goal

pub loop-k-preserved : goal.loop-k-preserved
loop-k-preserved c = range_on c.args.slots.now.items c.loop-k.slots.items c.push.new.self.items c.args.first c.loop-k.k c.loop-k.invariant c.in_ok-push.ensures.items
