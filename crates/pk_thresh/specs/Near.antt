-- Numbers of which the next ones have at most 128 bits.
use Rattle.std.specs.Prelude.{◌^◌, ℤ, pos, negsuc, ◌≤ℤ◌}

-- a number that lies in some integer type
pub record IsNear (z : ℤ) : Type 0 where
  pub from : negsuc (2 ^ 64) ≤ℤ z
  pub to : z ≤ℤ pos (2 ^ 64)
