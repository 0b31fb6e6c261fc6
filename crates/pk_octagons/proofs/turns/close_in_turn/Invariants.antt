use Rattle.std.proofs.Common.{◌≡◌}
use Rattle.pk_octmat.specs.Octagon.{entry}
use Rattle.pk_octclose.specs.Closing.{KeepsPoints}
use Rattle.pk_octmarks.specs.Marks.{IsMarked}
use Rattle.pk_octagons.specs.Reduced.{by_ranges}
use Rattle.pk_octagons.proofs.turns.close_in_turn.Given as goal

-- the integers are those of the octagon lowered by so many
abbrev pub invariant-loop-k : goal.invariant-loop-k
invariant-loop-k l = IsMarked l.known l.m × KeepsPoints (entry (by_ranges l.pack l.values l.k l.fn.m)) (entry l.m) × (l.m.vars ≡ l.fn.m.vars)
