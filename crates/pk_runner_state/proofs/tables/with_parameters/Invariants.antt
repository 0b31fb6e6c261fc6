-- Those that are left come behind the scope so far.
use Rattle.std.proofs.Common.{◌≡◌, drop}
use Rattle.pk_meaning.specs.Programs.{with_parameters}
use Rattle.pk_runner_frame.specs.Frames.{Reading, scope_in}
use Rattle.pk_runner_state.specs.Shown.{program_in, Agrees}
use Rattle.pk_runner_state.proofs.tables.with_parameters.Given as goal

abbrev pub invariant-loop-number : goal.invariant-loop-number
invariant-loop-number l = record {
  scope : (s : Reading) → Agrees s l.table.rows.items → with_parameters (program_in l.program) l.path l.number (drop l.number l.types) (scope_in s l.inner)
      ≡ with_parameters (program_in l.program) l.path 0 l.types (scope_in s l.fn.scope);
  before : (s : Reading) → Agrees s l.table.rows.items → Agrees s l.fn.table.rows.items;
}
