use Rattle.pk_cert_states.proofs.Writing.{IsWrittenTo}
use Rattle.pk_cert_states.proofs.states.with_facts.Given as goal

abbrev pub invariant-loop-x : goal.invariant-loop-x
invariant-loop-x l = IsWrittenTo l.frame l.values l.x l.state
