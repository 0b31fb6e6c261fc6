-- What is closed is ready for the bounds on any variable to change.
use Rattle.std.specs.Prelude.{◌≡◌, ◌⊎◌, ℕ, Some}
use Rattle.std.proofs.Common.{sym, subst, inr}
use Rattle.pk_octmat.specs.Octagon.{Octagon, IsOctagon}
use Rattle.pk_octclose.specs.Laws.{ClosingIsClosed}
use Rattle.pk_octclose.specs.Places.{closing_of}
use Rattle.pk_octclose.proofs.Floyd.{closing_right}
use Rattle.pk_octmarks.specs.declared.turns.Ahead.{Ahead}
use Rattle.pk_octmarks.specs.declared.turns.Ahead.TheVariants.{Known, Empty, Large}
use Rattle.pk_octmarks.specs.Marks.{IsMarked}
use Rattle.pk_octmarks.specs.Turns.{IsAhead, IsMade, IsReady}

pub made_ahead : ClosingIsClosed → (a : Ahead) (k : ℕ) (m r : Octagon) → IsOctagon m → IsMade a m r → IsAhead a k m r
made_ahead law (Known mark) k m r h p =
    subst (λ s. IsMarked s r × IsReady s k × ((r ≡ m) ⊎ (closing_of m ≡ Some r))) (sym p.0)
    (law m r h.whole (closing_right.vars m r h p.1) (closing_right.some m r h p.1), tt, inr p.1)
made_ahead law Empty k m r h p = p
made_ahead law Large k m r h p = p
