-- What an iteration ends with.
use Rattle.std.specs.Prelude.{ℕ, List}

-- each element's cell, and how often it was run
pub record Outcome (C : Type 0) : Type 0 where
  pub cells : List C
  pub runs : List ℕ
