use Rattle.std.proofs.Common.{◌≡◌}
use Rattle.pk_octagon_tests.proofs.closing.thicket.Given as goal

abbrev pub invariant-loop-i : goal.invariant-loop-i
invariant-loop-i l = l.m.vars ≡ 64

abbrev pub invariant-loop-j : goal.invariant-loop-j
invariant-loop-j l = l.m.vars ≡ 64
