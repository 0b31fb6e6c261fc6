use Rattle.pk_octagons.proofs.Placing.{AllAdded}
use Rattle.pk_octagons.proofs.packs.add_places.Given as goal

-- so many places are added
abbrev pub invariant-loop-k : goal.invariant-loop-k
invariant-loop-k l = AllAdded l.pack l.p l.k l.fn.table.items l.table.items
