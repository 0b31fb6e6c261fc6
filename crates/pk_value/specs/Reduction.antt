-- A range and a class of which each is as tight as the other lets it be (the reduced product of Granger 1989).
use Rattle.std.specs.Prelude.{◌≡◌, ℤ, pos, ◌≤ℤ◌, int_lt, if◌then◌else◌, Option, Some, None}
use Rattle.pk_interval.specs.Ranges.{Range, Holds, single}
use Rattle.pk_congr.specs.Classes.{Class, IsMember, constant, next_up_of, next_down_of}

-- bounds that are numbers of the class: a range of one number has that number's class
abbrev pub reduced_at : Class → ℤ → ℤ → Option (Range × Class)
reduced_at c lo hi =
    if int_lt lo hi then Some (record { lo = lo; hi = hi }, c)
    else (if int_lt hi lo then None else Some (single lo, constant lo))

abbrev pub reduced_if : Class → Option ℤ → Option ℤ → Option (Range × Class)
reduced_if c None hi = None
reduced_if c (Some lo) None = None
reduced_if c (Some lo) (Some hi) = reduced_at c lo hi

-- the least bound up and the greatest down to the next number of the class, if a number is left
abbrev pub red : Range → Class → Option (Range × Class)
red r c = reduced_if c (next_up_of c r.lo) (next_down_of c r.hi)

-- x is a number of the range and of the class
pub record IsInBoth (p : Range × Class) (x : ℤ) : Type 0 where
  pub range : Holds p.0 x
  pub class : IsMember p.1 x

-- Reduction keeps exactly the numbers of both, and its bounds are two of them.
pub record ReductionIsExact : Type 0 where
  pub all : (r : Range) (c : Class) (p : Range × Class) (x : ℤ) → pos 0 ≤ℤ c.m → red r c ≡ Some p →
      IsInBoth (r, c) x → IsInBoth p x
  pub only : (r : Range) (c : Class) (p : Range × Class) (x : ℤ) → pos 0 ≤ℤ c.m → red r c ≡ Some p → IsInBoth p x →
      IsInBoth (r, c) x
  pub none : (r : Range) (c : Class) (x : ℤ) → pos 0 ≤ℤ c.m → red r c ≡ None → IsInBoth (r, c) x → ⊥
  pub least : (r : Range) (c : Class) (p : Range × Class) → pos 0 ≤ℤ c.m → red r c ≡ Some p → IsInBoth p p.0.lo
  pub greatest : (r : Range) (c : Class) (p : Range × Class) → pos 0 ≤ℤ c.m → red r c ≡ Some p → IsInBoth p p.0.hi
