-- Lowering an octagon by ranges in turn, closed after each variable before the next.
use Rattle.std.specs.Prelude.{ℕ, ℤ}
use Rattle.pk_octmat.specs.Octagon.{Octagon, entry, Meets}
use Rattle.pk_octclose.specs.Closing.{KeepsPoints}
use Rattle.pk_octmarks.specs.declared.turns.Ahead.{Ahead}
use Rattle.pk_octmarks.specs.declared.turns.Ahead.TheVariants.{Known, Empty, Large}
use Rattle.pk_octmarks.specs.Marks.{IsMarked}

-- the integers that meet m are those that meet r, of which so much is known; or there are none
abbrev pub IsTurn : Ahead → Octagon → Octagon → Type 0
IsTurn (Known mark) m r = IsMarked mark r × KeepsPoints (entry m) (entry r)
IsTurn Empty m r = (x : ℕ → ℤ) → Meets (entry m) x → ⊥
IsTurn Large m r = Unit {0}
