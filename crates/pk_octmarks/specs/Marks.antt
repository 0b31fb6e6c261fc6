-- What is known of an octagon: that it is closed, that it is but for the bounds on one variable, or nothing.
use Rattle.std.specs.Prelude.{ℕ, ◌<◌, ◌+◌, ◌*◌, ◌/◌, ◌==◌, ◌||◌, if◌then◌else◌, Option, Some, None}
use Rattle.pk_octmat.specs.Octagon.{Octagon, entry}
use Rattle.pk_octclose.specs.Closing.{IsClosed}
use Rattle.pk_octclose.specs.Laws.{IsInside}
use Rattle.pk_octclose.specs.Places.{IsClosedBut}
use Rattle.pk_octmarks.specs.declared.mark.Mark.{Mark}
use Rattle.pk_octmarks.specs.declared.mark.Mark.TheVariants.{Closed, ClosedBut, Unknown}

-- the octagon is as its mark says
abbrev pub IsMarked : Mark → Octagon → Type 0
IsMarked Closed m = IsClosed (2 * m.vars) (entry m)
IsMarked (ClosedBut k) m = (k < m.vars) × IsClosedBut m k
IsMarked Unknown m = Unit {0}

-- once bounds have changed, each of which is on variable j and on variable k
abbrev pub changed : Mark → ℕ → ℕ → Mark
changed Closed j k = ClosedBut j
changed (ClosedBut i) j k = if (i == j) || (i == k) then ClosedBut i else Unknown
changed Unknown j k = Unknown

-- once variable k is forgotten
abbrev pub forgotten : Mark → ℕ → Mark
forgotten Closed k = Closed
forgotten (ClosedBut i) k = if i == k then Closed else ClosedBut i
forgotten Unknown k = Unknown

-- behind a guard on V(a) + V(b)
abbrev pub guarded : Mark → Option ℕ → Option ℕ → Mark
guarded mark None b = mark
guarded mark (Some a) None = changed mark (a / 2) (a / 2)
guarded mark (Some a) (Some b) = changed mark (a / 2) (b / 2)

-- of a join: what is closed is so but for each variable
abbrev pub joined : Mark → Mark → Mark
joined Closed b = b
joined (ClosedBut j) Closed = ClosedBut j
joined (ClosedBut j) (ClosedBut k) = if j == k then ClosedBut j else Unknown
joined (ClosedBut j) Unknown = Unknown
joined Unknown b = Unknown

-- each bound on variable k is a number far from the cap
abbrev pub IsFar : Octagon → ℕ → Type 0
IsFar m k = (j : ℕ) → j < 2 * m.vars → IsInside (entry m (2 * k) j) × IsInside (entry m (2 * k + 1) j)
