use Rattle.pk_octmarks.proofs.Made.{made_ahead}
use Rattle.pk_octmarks.proofs.turns.close_ahead.Goals as goal

pub returns-else-j-k-clause-value : goal.returns-else-j-k-clause-value
returns-else-j-k-clause-value c = made_ahead c.closing_is_closed.ensures c.close_known.result c.args.k c.args.m.now c.close_known.new.m c.is_octagon.ensures c.close_known.ensures.value

pub returns-in-Unknown-clause-value : goal.returns-in-Unknown-clause-value
returns-in-Unknown-clause-value c = made_ahead c.closing_is_closed.ensures c.close_known-in-Unknown.result c.args.k c.args.m.now c.close_known-in-Unknown.new.m c.is_octagon.ensures c.close_known-in-Unknown.ensures.value
