-- Facts that are known to be reduced already.
use Rattle.std.specs.Prelude.{◌≡◌, Bool, true, Option, Some, None, []}
use Rattle.pk_octagons.specs.Values.{AreMarked}
use Rattle.pk_octagons.specs.Reduced.{AreResting, BoundNone}
use Rattle.pk_state.specs.Layouts.{Layout}
use Rattle.pk_state.specs.Facts.{Facts}

-- Facts that are their own reduction: the values are tight, the octagons rest under them, and bound none of them.
pub record IsSettled (l : Layout) (f : Facts) : Type 0 where
  pub tight : AreMarked f.values []
  pub resting : AreResting l.packs f.values f.octagons
  pub bounded : BoundNone l.packs f.values f.octagons

-- where there are facts, they are settled
abbrev pub AreSettled : Layout → Option Facts → Type 0
AreSettled l None = Unit {0}
AreSettled l (Some f) = IsSettled l f

-- facts that are marked as settled are so
abbrev pub IsSettledIf : Bool → Layout → Option Facts → Type 0
IsSettledIf mark l o = mark ≡ true → AreSettled l o
