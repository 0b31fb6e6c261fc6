use Rattle.pk_packs.proofs.EndLemmas.{AreOwnSoFar}
use Rattle.pk_packs.proofs.ends.own_ends.Given as goal

abbrev pub invariant-loop-number : goal.invariant-loop-number
invariant-loop-number l = AreOwnSoFar l.plan l.number l.ends.items
