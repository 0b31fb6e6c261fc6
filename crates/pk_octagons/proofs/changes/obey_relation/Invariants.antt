use Rattle.pk_octagons.proofs.Overs.{AreOver, related_at}
use Rattle.pk_octagons.proofs.changes.obey_relation.Given as goal

-- so many places change nothing
abbrev pub invariant-loop-i : goal.invariant-loop-i
invariant-loop-i l = AreOver l.packs (related_at l.packs l.a l.b l.c l.over) l.places l.i l.all l.all
