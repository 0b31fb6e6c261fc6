use Rattle.pk_transfer.proofs.EachLemmas.{AreWrittenTo}
use Rattle.pk_transfer.proofs.transfers.known_each.Given as goal

abbrev pub invariant-loop-i : goal.invariant-loop-i
invariant-loop-i l = AreWrittenTo l.fn.state l.state l.x l.i l.n l.known
