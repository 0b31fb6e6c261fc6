-- No path before is by the call.
use Rattle.std.proofs.Common.{◌≡◌, ◌+◌, drop}
use Rattle.pk_meaning.specs.Programs.{number_by}
use Rattle.pk_runner_state.proofs.programs.callee.Given as goal

abbrev pub invariant-loop-number : goal.invariant-loop-number
invariant-loop-number l = l.number + number_by l.path l.call (drop l.number l.program.paths.now) ≡ number_by l.path l.call l.program.paths.now
