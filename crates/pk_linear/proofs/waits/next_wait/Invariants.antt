use Rattle.std.proofs.Common.{◌-◌, ◌+◌}
use Rattle.pk_linear.specs.Waits.{IsReadTo}
use Rattle.pk_linear.proofs.waits.next_wait.Given as goal

abbrev pub invariant-loop-place : goal.invariant-loop-place
invariant-loop-place l = IsReadTo l.plan l.placed l.item (record { place = l.place; read = l.read })

abbrev pub decreases-loop-place : goal.decreases-loop-place
decreases-loop-place l = (l.last + 1) - l.place
