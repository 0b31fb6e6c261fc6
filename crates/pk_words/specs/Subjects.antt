-- What a board is about.
use Rattle.std.specs.Prelude.{Bool}
use Rattle.pk_layout.specs.Wirings.{Wiring}

-- a system, its plan with slots and the limit of runs, and whether cells are let go of once nothing reads them any more
pub record SubjectView (Y : Type 0) : Type 0 where
  pub system : Y
  pub wiring : Wiring
  pub lean : Bool
