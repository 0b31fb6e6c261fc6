-- The range of one variable, rounded inward.
use Rattle.std.specs.Prelude.{ℤ, pos, neg_ℤ, ◌≤ℤ◌, Option, Some, None}
use Rattle.std.specs.Int.{int_div_euclid}

-- the least number of a variable, from the bound on -x - x
abbrev pub least_of : Option ℤ → Option ℤ
least_of None = None
least_of (Some z) = Some (neg_ℤ (int_div_euclid z (pos 2)))

-- z lies between two bounds, each a number or none
abbrev pub IsFrom : Option ℤ → ℤ → Type 0
IsFrom None z = Unit {0}
IsFrom (Some low) z = low ≤ℤ z
