use Rattle.std.proofs.Common.{◌≡◌}
use Rattle.pk_graph_tests.proofs.lines.along.Given as goal

abbrev pub invariant-loop-point : goal.invariant-loop-point
invariant-loop-point l = l.state.layout ≡ l.frame
