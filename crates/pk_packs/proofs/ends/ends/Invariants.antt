use Rattle.pk_packs.proofs.EndLemmas.{AreEndsSoFar}
use Rattle.pk_packs.proofs.ends.ends.Given as goal

abbrev pub invariant-loop-end : goal.invariant-loop-end
invariant-loop-end l = AreEndsSoFar l.plan l.end-index l.furthest l.ends.items
