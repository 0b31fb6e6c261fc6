-- Those that are left come behind the scope so far.
use Rattle.std.proofs.Common.{◌≡◌, drop}
use Rattle.pk_meaning.specs.Programs.{with_all_declared}
use Rattle.pk_typed.specs.Views.{declared_trees}
use Rattle.pk_runner_frame.specs.Frames.{Reading, scope_in}
use Rattle.pk_runner_state.specs.Shown.{program_in, Agrees}
use Rattle.pk_runner_state.proofs.tables.with_all_declared.Given as goal

abbrev pub invariant-loop-number : goal.invariant-loop-number
invariant-loop-number l = record {
  scope : (s : Reading) → Agrees s l.table.rows.items → with_all_declared (program_in l.program) l.path (declared_trees (drop l.number l.objects)) (scope_in s l.inner)
      ≡ with_all_declared (program_in l.program) l.path (declared_trees l.objects) (scope_in s l.fn.scope);
  before : (s : Reading) → Agrees s l.table.rows.items → Agrees s l.fn.table.rows.items;
}
