-- The rows that were there stay; one more each time.
use Rattle.std.proofs.Common.{◌+◌, ◌-◌, length}
use Rattle.pk_runner_frame.specs.Frames.{Reading}
use Rattle.pk_runner_state.specs.Shown.{Agrees}
use Rattle.pk_runner_state.proofs.tables.reach.Given as goal

abbrev pub invariant-loop-number : goal.invariant-loop-number
invariant-loop-number l = (s : Reading) → Agrees s l.table.rows.items → Agrees s l.fn.table.rows.items

abbrev pub decreases-loop-number : goal.decreases-loop-number
decreases-loop-number l = (l.number + 1) - length l.table.rows.items
