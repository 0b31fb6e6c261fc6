-- What is known of the objects so far.
use Rattle.std.proofs.Common.{◌≡◌, take, map}
use Rattle.pk_meaning.specs.Runs.{known_of}
use Rattle.pk_runner_frame.specs.Frames.{object_in}
use Rattle.pk_runner_state.specs.Shown.{program_in, objects_in}
use Rattle.pk_runner_visit.specs.Seen.{known_in}
use Rattle.pk_runner_visit.proofs.visits.all_known.Given as goal

abbrev pub invariant-loop-place : goal.invariant-loop-place
invariant-loop-place l = map known_in l.known.items ≡ map (λ x. known_of (program_in l.program) (objects_in l.objects) (object_in x)) (take l.place l.list)
