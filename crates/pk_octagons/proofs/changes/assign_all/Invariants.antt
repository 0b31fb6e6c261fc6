use Rattle.pk_octagons.proofs.Overs.{AreOver, assigned_at}
use Rattle.pk_octagons.proofs.changes.assign_all.Given as goal

-- so many places are done
abbrev pub invariant-loop-i : goal.invariant-loop-i
invariant-loop-i l = AreOver l.packs (assigned_at l.packs l.term l.c l.over) l.places l.i l.fn.all.items l.all.items
