-- Congruences of whole numbers (Granger 1989): a rest, and every number that differs from it by a multiple of a modulus.
use Rattle.std.specs.Prelude.{◌≡◌, ◌⊎◌, ℕ, zero, suc, ◌+◌, ◌*◌, ◌/◌, ◌%◌, ◌^◌, ◌<◌, ◌==◌, nat_lt, Bool, not, ◌&&◌, if◌then◌else◌, ℤ, pos, ◌+ℤ◌, ◌-ℤ◌, ◌*ℤ◌, ◌≤ℤ◌, ◌<ℤ◌, int_le, unsigned_abs, Option, Some, None}
use Rattle.std.specs.Ordering.{int_eq}
use Rattle.std.specs.Int.{int_rem_euclid}

-- the class mZ + r
pub record Class : Type 0 where
  pub m : ℤ
  pub r : ℤ

-- x is r plus a multiple of m; where m is 0, x is r
abbrev pub IsMember : Class → ℤ → Type 0
IsMember c x = (k : ℤ) × (x ≡ c.r +ℤ k *ℤ c.m)

-- the modulus is 0, or the rest is one of 0 to m - 1; both are below 2 ^ 127 in absolute value
pub record IsReduced (m r : ℤ) : Type 0 where
  pub from : pos 0 ≤ℤ m
  pub rest : (m ≡ pos 0) ⊎ ((pos 0 ≤ℤ r) × (r <ℤ m))
  pub modulus_held : unsigned_abs m < 2 ^ 127
  pub rest_held : unsigned_abs r < 2 ^ 127

-- the greatest common divisor, by so many steps of Euclid's algorithm at most
unfoldable pub gcd_in : ℕ → ℕ → ℕ → ℕ
gcd_in zero a b = a
gcd_in (suc n) a zero = a
gcd_in (suc n) a (suc b) = gcd_in n (suc b) (a % suc b)

-- Each step makes the second number less.
unfoldable pub gcd : ℕ → ℕ → ℕ
gcd a b = gcd_in (b + 1) a b

abbrev pub int_gcd : ℤ → ℤ → ℤ
int_gcd a b = pos (gcd (unsigned_abs a) (unsigned_abs b))

-- the least common multiple
abbrev pub int_lcm : ℤ → ℤ → ℤ
int_lcm a b = pos (unsigned_abs a * unsigned_abs b / gcd (unsigned_abs a) (unsigned_abs b))

-- d divides z; 0 divides only 0
abbrev pub divides : ℤ → ℤ → Bool
divides d z = unsigned_abs z % unsigned_abs d == 0

-- a number that a modulus or a rest may be
abbrev pub is_held : ℤ → Bool
is_held z = nat_lt (unsigned_abs z) (2 ^ 127)

-- one number
abbrev pub constant : ℤ → Class
constant x = record { m = pos 0; r = x }

-- every number
abbrev pub every : Class
every = record { m = pos 1; r = pos 0 }

abbrev pub rest_modulo : ℤ → ℤ → ℤ
rest_modulo r m = if int_eq m (pos 0) then r else int_rem_euclid r m

-- the class of a modulus and any number of it
abbrev pub class_of : ℤ → ℤ → Class
class_of m r = record { m = m; r = rest_modulo r m }

-- that class, or every number where the modulus or the rest is 2 ^ 127 or more in absolute value
abbrev pub class_if : ℤ → ℤ → Class
class_if m r = if is_held m && is_held r then class_of m r else every

abbrev pub has_member : Class → ℤ → Bool
has_member c x = divides c.m (x -ℤ c.r)

-- each number of the first is one of the second
abbrev pub is_within : Class → Class → Bool
is_within a b = divides b.m a.m && divides b.m (a.r -ℤ b.r)

-- the least class that has the numbers of both
abbrev pub joined : Class → Class → Class
joined a b = class_if (int_gcd (int_gcd a.m b.m) (a.r -ℤ b.r)) a.r

-- no number is in both
abbrev pub are_apart : Class → Class → Bool
are_apart a b = not (divides (int_gcd a.m b.m) (a.r -ℤ b.r))

-- the first of the n numbers r, r + m, r + 2m, .. that is in b; the number after them where none is
unfoldable pub first_in : Class → ℤ → ℕ → ℤ → ℤ
first_in b m zero r = r
first_in b m (suc n) r = if has_member b r then r else first_in b m n (r +ℤ m)

-- The numbers that are in two classes that are not apart, neither of them a constant: the least common multiple, and the first common number from the
-- first class's rest up. The first class where that multiple is 2 ^ 127 or more.
abbrev pub met_of : Class → Class → Class
met_of a b = if is_held (int_lcm a.m b.m) then class_of (int_lcm a.m b.m) (first_in b a.m (unsigned_abs b.m) a.r) else a

-- the numbers that are in both: none, a constant that both have, or those
abbrev pub met : Class → Class → Option Class
met a b =
    if are_apart a b then None
    else (if int_eq a.m (pos 0) then Some a
    else (if int_eq b.m (pos 0) then Some b
    else Some (met_of a b)))

abbrev pub widened : Class → Class → Class
widened h n = joined h n

abbrev pub narrowed : Class → Class → Class
narrowed h n = if int_eq h.m (pos 1) then n else h

-- the least number of a class that is x or more, if there is one
abbrev pub next_up_of : Class → ℤ → Option ℤ
next_up_of c x =
    if int_eq c.m (pos 0) then (if int_le x c.r then Some c.r else None)
    else Some (x +ℤ int_rem_euclid (c.r -ℤ x) c.m)

-- the greatest number of a class that is x or less, if there is one
abbrev pub next_down_of : Class → ℤ → Option ℤ
next_down_of c x =
    if int_eq c.m (pos 0) then (if int_le c.r x then Some c.r else None)
    else Some (x -ℤ int_rem_euclid (x -ℤ c.r) c.m)

-- a number below 2 ^ 127 in absolute value
abbrev pub held_number : Option ℤ → Option ℤ
held_number None = None
held_number (Some z) = if is_held z then Some z else None
