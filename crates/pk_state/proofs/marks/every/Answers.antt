use Rattle.pk_state.proofs.Loose.{listed_more}
use Rattle.pk_state.proofs.marks.every.Goals as goal

pub loop-x-preserved : goal.loop-x-preserved
loop-x-preserved c = rw c.in_ok-push.ensures.items (listed_more c.loop-x.out.items c.loop-x.x c.loop-x.invariant)
