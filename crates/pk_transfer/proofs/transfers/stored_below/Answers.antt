use Rattle.pk_transfer.proofs.EachLemmas.{below_next}
use Rattle.pk_transfer.proofs.transfers.stored_below.Goals as goal

pub loop-i-preserved : goal.loop-i-preserved
loop-i-preserved c = below_next c.args.state c.loop-i.state c.in_ok-state.state c.args.x c.loop-i.i c.args.k.now c.args.value c.loop-i.invariant c.in_ok-state.ensures
