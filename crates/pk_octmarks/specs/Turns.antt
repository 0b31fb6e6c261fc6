-- Closing in turn: what there is of an octagon before the bounds on a variable change.
use Rattle.std.specs.Prelude.{◌≡◌, ◌⊎◌, ℕ, Some, None}
use Rattle.pk_octmat.specs.Octagon.{Octagon}
use Rattle.pk_octclose.specs.Closing.{IsSmall}
use Rattle.pk_octclose.specs.Places.{closing_of}
use Rattle.pk_octmarks.specs.declared.mark.Mark.{Mark}
use Rattle.pk_octmarks.specs.declared.mark.Mark.TheVariants.{Closed, ClosedBut, Unknown}
use Rattle.pk_octmarks.specs.declared.turns.Ahead.{Ahead}
use Rattle.pk_octmarks.specs.declared.turns.Ahead.TheVariants.{Known, Empty, Large}
use Rattle.pk_octmarks.specs.Marks.{IsMarked}

-- r is the closing of m; or m isn't small, and is r
abbrev pub IsMade : Ahead → Octagon → Octagon → Type 0
IsMade (Known mark) m r = (mark ≡ Closed) × (closing_of m ≡ Some r)
IsMade Empty m r = closing_of m ≡ None
IsMade Large m r = (IsSmall m → ⊥) × (r ≡ m)

-- where the bounds on variable k change next, the octagon is closed but for them
abbrev pub IsReady : Mark → ℕ → Type 0
IsReady Closed k = Unit {0}
IsReady (ClosedBut j) k = j ≡ k
IsReady Unknown k = ⊥

-- r is m or its closing, and ready for the bounds on variable k to change; or m isn't small, and is r
abbrev pub IsAhead : Ahead → ℕ → Octagon → Octagon → Type 0
IsAhead (Known mark) k m r = IsMarked mark r × IsReady mark k × ((r ≡ m) ⊎ (closing_of m ≡ Some r))
IsAhead Empty k m r = closing_of m ≡ None
IsAhead Large k m r = (IsSmall m → ⊥) × (r ≡ m)
