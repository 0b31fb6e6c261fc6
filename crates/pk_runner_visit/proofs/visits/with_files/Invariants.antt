-- Those that are left come behind the objects so far.
use Rattle.std.proofs.Common.{◌≡◌, ◌++◌, map}
use Rattle.pk_meaning.specs.Programs.{file_scope}
use Rattle.pk_runner_frame.specs.Frames.{object_in}
use Rattle.pk_runner_visit.proofs.visits.with_files.Given as goal

abbrev pub invariant-loop-left : goal.invariant-loop-left
invariant-loop-left l = map object_in l.list.items ++ file_scope l.left ≡ map object_in l.fn.list.items ++ file_scope l.count

abbrev pub decreases-loop-left : goal.decreases-loop-left
decreases-loop-left l = l.left
