use Rattle.std.proofs.Common.{◌*◌}
use Rattle.pk_cert_states.specs.Parts.{bound_of, IsFilledTo}
use Rattle.pk_cert_states.proofs.bounds.made.Given as goal

abbrev pub invariant-loop-j : goal.invariant-loop-j
invariant-loop-j l = IsFilledTo l.n (bound_of l.symbols (2 * l.n)) l.i l.j l.m

abbrev pub invariant-loop-i : goal.invariant-loop-i
invariant-loop-i l = IsFilledTo l.n (bound_of l.symbols (2 * l.n)) l.i 0 l.m
