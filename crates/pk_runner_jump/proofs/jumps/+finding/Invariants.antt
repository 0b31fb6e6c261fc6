-- Those that are left are found as all were, in frames as they were.
use Rattle.std.proofs.Common.{◌≡◌, drop}
use Rattle.pk_typed.specs.Views.{item_trees}
use Rattle.pk_meaning.specs.Work.{Way}
use Rattle.pk_meaning.specs.Steps.{found_in}
use Rattle.pk_runner_frame.specs.Frames.{Reading, scope_in, held, ahead_at}
use Rattle.pk_runner_state.specs.Shown.{program_in, Agrees}
use Rattle.pk_runner_jump.specs.Marks.{mark_in}
use Rattle.pk_runner_jump.proofs.jumps.+finding.Given as goal

abbrev pub invariant-find_in-loop-number : goal.invariant-find_in-loop-number
invariant-find_in-loop-number l = record {
  left : (s : Reading) → Agrees s l.table.rows.items → (o : Way)
      → found_in (program_in l.program) l.path (mark_in l.mark) (scope_in s l.inner) (item_trees (drop l.number l.items)) (ahead_at (held s l.fn.frames.items) l.ahead) o
      ≡ found_in (program_in l.program) l.path (mark_in l.mark) (scope_in s l.fn.scope) (item_trees l.items) (ahead_at (held s l.fn.frames.items) l.ahead) o;
  before : (s : Reading) → Agrees s l.table.rows.items → Agrees s l.fn.table.rows.items;
  kept : l.frames.items ≡ l.fn.frames.items;
}
