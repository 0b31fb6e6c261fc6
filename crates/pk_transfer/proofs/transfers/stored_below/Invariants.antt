use Rattle.pk_transfer.specs.Assignments.{HasFacts}
use Rattle.pk_transfer.specs.Transfers.{stored_below}
use Rattle.pk_transfer.proofs.transfers.stored_below.Given as goal

abbrev pub invariant-loop-i : goal.invariant-loop-i
invariant-loop-i l = HasFacts l.fn.state (stored_below l.fn.state.layout l.fn.state.facts l.x l.k l.value l.i) l.state
