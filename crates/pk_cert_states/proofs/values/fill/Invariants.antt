use Rattle.pk_cert_states.specs.Parts.{AreFilledTo}
use Rattle.pk_cert_states.proofs.values.fill.Given as goal

abbrev pub invariant-loop-p : goal.invariant-loop-p
invariant-loop-p l = AreFilledTo l.frame l.order l.symbols l.rest l.values.items l.p
