-- What the top of u constrains by an edge from u to v.
use Rattle.std.specs.Prelude.{ℕ}

-- v, or the exit of v where it is the head of a component that holds u
pub data IsTarget (holds : ℕ → ℕ → Type 0) (exit : ℕ → ℕ) (u v : ℕ) : ℕ → Type 0 where
  vertex : ¬ holds v u → IsTarget holds exit u v v
  exit_of_head : holds v u → IsTarget holds exit u v (exit v)
