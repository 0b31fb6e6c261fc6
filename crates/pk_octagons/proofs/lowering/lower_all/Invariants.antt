use Rattle.std.proofs.Common.{◌≡◌}
use Rattle.pk_octmarks.specs.Marks.{IsMarked}
use Rattle.pk_octagons.specs.Reduced.{by_ranges}
use Rattle.pk_octagons.proofs.lowering.lower_all.Given as goal

-- lowered by so many
abbrev pub invariant-loop-k : goal.invariant-loop-k
invariant-loop-k l = (l.m ≡ by_ranges l.pack l.values l.k l.fn.m) × (l.m.vars ≡ l.fn.m.vars) × (IsMarked l.fn.mark l.fn.m → IsMarked l.known l.m)
