use Rattle.std.proofs.Common.{◌≡◌}
use Rattle.pk_octagon_tests.proofs.closing.write_bounds.Given as goal

abbrev pub invariant-loop-i : goal.invariant-loop-i
invariant-loop-i l = l.m.vars ≡ l.fn.m.vars
