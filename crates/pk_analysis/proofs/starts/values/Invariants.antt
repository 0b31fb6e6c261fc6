use Rattle.pk_analysis.proofs.StartLemmas.{AreOwnTo, AreFurtherTo}
use Rattle.pk_analysis.proofs.starts.values.Given as goal

abbrev pub invariant-loop-variable : goal.invariant-loop-variable
invariant-loop-variable l = AreOwnTo l.variables l.variable-index l.values.items

abbrev pub invariant-loop-variable-2 : goal.invariant-loop-variable-2
invariant-loop-variable-2 l = AreFurtherTo l.variables l.variable-index l.values.items
