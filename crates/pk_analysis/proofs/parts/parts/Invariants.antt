use Rattle.pk_analysis.proofs.PartLemmas.{PartsFrom}
use Rattle.pk_analysis.proofs.parts.parts.Given as goal

abbrev pub invariant-loop-at : goal.invariant-loop-at
invariant-loop-at l = PartsFrom l.plan l.at l.parts.items

abbrev pub decreases-loop-at : goal.decreases-loop-at
decreases-loop-at l = l.at
