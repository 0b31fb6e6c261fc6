-- Copies of a cell.
use Rattle.std.specs.Prelude.{ℕ}

-- whose cell it is, the cell, and how many there are
pub record CopiesView (C : Type 0) : Type 0 where
  pub element : ℕ
  pub cell : C
  pub count : ℕ
