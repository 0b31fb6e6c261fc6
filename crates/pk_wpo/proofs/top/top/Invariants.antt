use Rattle.pk_wpo.proofs.Climbing.{Climbing, rest_of}
use Rattle.pk_wpo.proofs.top.top.Given as goal

abbrev pub invariant-loop-next : goal.invariant-loop-next
invariant-loop-next l = Climbing l.layout l.u l.v l.top l.next

abbrev pub decreases-loop-next : goal.decreases-loop-next
decreases-loop-next l = rest_of l.layout l.next
