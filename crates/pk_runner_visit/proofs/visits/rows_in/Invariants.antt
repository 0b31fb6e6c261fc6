-- What is left of the scope comes behind the objects so far.
use Rattle.std.proofs.Common.{◌≡◌, ◌≤◌, ◌++◌, length, map}
use Rattle.pk_runner_frame.specs.Frames.{Reading, object_in, scope_in}
use Rattle.pk_runner_state.specs.Rows.{rows_of_scope}
use Rattle.pk_runner_state.specs.Shown.{Agrees}
use Rattle.pk_runner_visit.proofs.visits.rows_in.Given as goal

abbrev pub invariant-loop-left : goal.invariant-loop-left
invariant-loop-left l = record {
  there : rows_of_scope l.left ≤ length l.table.rows.items;
  rest : (s : Reading) → Agrees s l.table.rows.items → map object_in l.list.items ++ scope_in s l.left ≡ scope_in s l.fn.scope;
}

abbrev pub decreases-loop-left : goal.decreases-loop-left
decreases-loop-left l = rows_of_scope l.left
