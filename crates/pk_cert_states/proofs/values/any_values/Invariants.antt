use Rattle.pk_cert_states.proofs.Writing.{AreInTo}
use Rattle.pk_cert_states.proofs.values.any_values.Given as goal

abbrev pub invariant-loop-j : goal.invariant-loop-j
invariant-loop-j l = AreInTo l.frame l.values.items l.j
