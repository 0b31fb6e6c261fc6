-- Those that are left are numbers for the parameters that are left.
use Rattle.std.proofs.Common.{◌≡◌, drop}
use Rattle.pk_meaning.specs.Runs.{with_arguments}
use Rattle.pk_runner_state.specs.Shown.{objects_in}
use Rattle.pk_runner.proofs.runs.set_arguments.Given as goal

abbrev pub invariant-loop-number : goal.invariant-loop-number
invariant-loop-number l = with_arguments l.number (drop l.number l.types) (drop l.number l.numbers) (objects_in l.objects) ≡ with_arguments 0 l.types l.numbers (objects_in l.fn.objects)
