-- Points as lists of numbers.
use Rattle.std.specs.Prelude.{◌≡◌, ℕ, ◌*◌, ◌^◌, ℤ, pos, ◌-ℤ◌, ◌≤ℤ◌, Option, Some, None, List, slice_index_or, length}
use Rattle.pk_octmat.specs.Bounds.{IsNear}
use Rattle.pk_octmat.specs.Octagon.{Octagon, bar, entry, side, Meets}
use Rattle.pk_octpoints.specs.Parts.{MeetsThere, bound_by, nearest}

-- the numbers of a list, 0 beyond it
abbrev pub numbers_of : List ℤ → ℕ → ℤ
numbers_of xs k = slice_index_or xs k (pos 0)

-- each number is within 2^100 of 0
abbrev pub AreWithin : List ℤ → Type 0
AreWithin xs = (k : ℕ) → IsNear (2 ^ 100) (Some (numbers_of xs k))

-- integers of an octagon with V(j) - V(i) at least c
pub record IsPoint (m : Octagon) (i j : ℕ) (c : ℤ) (xs : List ℤ) : Type 0 where
  pub all : length xs ≡ m.vars
  pub near : AreWithin xs
  pub meets : Meets (entry m) (numbers_of xs)
  pub far : c ≤ℤ (side (numbers_of xs) j -ℤ side (numbers_of xs) i)

-- integers of an octagon at which a bound is attained
pub record Attains (m : Octagon) (i j : ℕ) (xs : List ℤ) : Type 0 where
  pub all : length xs ≡ m.vars
  pub near : AreWithin xs
  pub meets : Meets (entry m) (numbers_of xs)
  pub is : Some (side (numbers_of xs) j -ℤ side (numbers_of xs) i) ≡ entry m i j

-- the number of variable k, none where it isn't there
abbrev pub number_at : List (Option ℤ) → ℕ → Option ℤ
number_at xs k = slice_index_or xs k None

-- each number that is there is within m of 0
abbrev pub AreNear : ℕ → List (Option ℤ) → Type 0
AreNear m xs = (k : ℕ) → IsNear m (number_at xs k)

-- V(p) as near to a wish as the bounds to the numbers of a list allow
abbrev pub nearest_in : Octagon → List (Option ℤ) → ℕ → ℤ → ℤ
nearest_in m xs p w =
    nearest w (bound_by (entry m) (number_at xs) p (2 * m.vars))
    (bound_by (entry m) (number_at xs) (bar p) (2 * m.vars))

-- the numbers of a list that are there meet an octagon, and are within k * 2^66 of 0
pub record IsPart (m : Octagon) (k : ℕ) (xs : List (Option ℤ)) : Type 0 where
  pub size : length xs ≡ m.vars
  pub meets : MeetsThere (2 * m.vars) (entry m) (number_at xs)
  pub near : AreNear (k * 2 ^ 66) xs

-- the number of variable k is there
abbrev pub IsThere : List (Option ℤ) → ℕ → Type 0
IsThere xs k = (v : ℤ) × (number_at xs k ≡ Some v)

-- the numbers that were there are there still
abbrev pub Keeps : List (Option ℤ) → List (Option ℤ) → Type 0
Keeps xs ys = (k : ℕ) (v : ℤ) → number_at xs k ≡ Some v → number_at ys k ≡ Some v

abbrev pub number_or_zero : Option ℤ → ℤ
number_or_zero None = pos 0
number_or_zero (Some z) = z
