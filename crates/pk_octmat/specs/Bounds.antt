-- Bounds: a number, or none, which is above every number.
use Rattle.std.specs.Prelude.{Bool, true, false, ◌-◌, ◌^◌, if◌then◌else◌, ℕ, ℤ, pos, negsuc, ◌+ℤ◌, ◌-ℤ◌, ◌≤ℤ◌, int_lt, int_le, Option, Some, None}
use Rattle.std.specs.Int.{int_div_euclid}

-- the first bound is at most the second
abbrev pub AtMost : Option ℤ → Option ℤ → Type 0
AtMost None None = Unit {0}
AtMost (Some a) None = Unit {0}
AtMost None (Some b) = ⊥
AtMost (Some a) (Some b) = a ≤ℤ b

-- the same as a test
abbrev pub is_at_most : Option ℤ → Option ℤ → Bool
is_at_most None None = true
is_at_most (Some a) None = true
is_at_most None (Some b) = false
is_at_most (Some a) (Some b) = int_le a b

abbrev pub is_none : Option ℤ → Bool
is_none None = true
is_none (Some z) = false

abbrev pub is_negative : Option ℤ → Bool
is_negative None = false
is_negative (Some z) = int_lt z (pos 0)

abbrev pub plus : Option ℤ → Option ℤ → Option ℤ
plus None b = None
plus (Some a) None = None
plus (Some a) (Some b) = Some (a +ℤ b)

-- the lesser of two bounds
abbrev pub lesser : Option ℤ → Option ℤ → Option ℤ
lesser None b = b
lesser (Some a) None = Some a
lesser (Some a) (Some b) = if int_lt b a then Some b else Some a

-- the greater of two bounds
abbrev pub greater : Option ℤ → Option ℤ → Option ℤ
greater None b = None
greater (Some a) None = None
greater (Some a) (Some b) = if int_lt a b then Some b else Some a

-- half of a bound, rounded down
abbrev pub halved : Option ℤ → Option ℤ
halved None = None
halved (Some z) = Some (int_div_euclid z (pos 2))

-- a bound down to even
abbrev pub even_down : Option ℤ → Option ℤ
even_down None = None
even_down (Some z) = Some (int_div_euclid z (pos 2) +ℤ int_div_euclid z (pos 2))

-- a bound above 2^66 becomes none, one below -2^66 becomes -2^66
abbrev pub capped : Option ℤ → Option ℤ
capped None = None
capped (Some z) =
    if int_lt (pos (2 ^ 66)) z then None
    else (if int_lt z (negsuc (2 ^ 66 - 1)) then Some (negsuc (2 ^ 66 - 1)) else Some z)

-- a bound is none or at most m away from 0
abbrev pub IsNear : ℕ → Option ℤ → Type 0
IsNear m None = Unit {0}
IsNear m (Some z) = ((pos 0 -ℤ pos m) ≤ℤ z) × (z ≤ℤ pos m)
