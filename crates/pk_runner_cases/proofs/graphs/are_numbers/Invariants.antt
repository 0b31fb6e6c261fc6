use Rattle.std.proofs.Common.{ℕ, ◌<◌}
use Rattle.pk_ctypes.specs.Types.{InType}
use Rattle.pk_graph.specs.Steps.{number_at}
use Rattle.pk_runner_cases.proofs.graphs.are_numbers.Given as goal

abbrev pub invariant-loop-place : goal.invariant-loop-place
invariant-loop-place l = (i : ℕ) → i < l.place → InType l.int_type (number_at l.numbers i)
