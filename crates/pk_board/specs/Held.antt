-- Tokens as contracts see them.
use Rattle.std.specs.Prelude.{ℕ}

pub record HoldView : Type 0 where
  pub element : ℕ
  pub run : ℕ

-- so many of the element's sends were made
pub record SendingView : Type 0 where
  pub element : ℕ
  pub sent : ℕ

-- so many members of the exit's component are still to be armed
pub record ResettingView : Type 0 where
  pub exit : ℕ
  pub left : ℕ
