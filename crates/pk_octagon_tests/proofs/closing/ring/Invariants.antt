use Rattle.std.proofs.Common.{◌≡◌}
use Rattle.pk_octagon_tests.proofs.closing.ring.Given as goal

abbrev pub invariant-loop-k : goal.invariant-loop-k
invariant-loop-k l = l.m.vars ≡ 64
