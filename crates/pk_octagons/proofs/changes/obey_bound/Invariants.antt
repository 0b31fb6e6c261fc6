use Rattle.pk_octagons.proofs.Overs.{AreOver, bounded_at}
use Rattle.pk_octagons.proofs.changes.obey_bound.Given as goal

-- so many places change nothing
abbrev pub invariant-loop-i : goal.invariant-loop-i
invariant-loop-i l = AreOver l.packs (bounded_at l.packs l.a l.c l.over) l.places l.i l.all l.all
