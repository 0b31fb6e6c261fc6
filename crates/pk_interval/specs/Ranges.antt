-- Ranges of whole numbers: what an interval shows, and their order (Cousot and Cousot 1977).
use Rattle.std.specs.Prelude.{Bool, ◌&&◌, if◌then◌else◌, ℤ, ◌≤ℤ◌, int_le, Option, Some, None}
use Rattle.std.specs.Int.{int_min, int_max}
use Rattle.pk_ctypes.specs.declared.types.IntType.{IntType}
use Rattle.pk_ctypes.specs.Types.{low_of, high_of, InType}

-- the whole numbers from lo to hi
pub record Range : Type 0 where
  pub lo : ℤ
  pub hi : ℤ

-- x is one of them
pub record Holds (r : Range) (x : ℤ) : Type 0 where
  pub from : r.lo ≤ℤ x
  pub to : x ≤ℤ r.hi

-- x is held by the range, if there is one
abbrev pub HeldBy : Option Range → ℤ → Type 0
HeldBy None x = ⊥
HeldBy (Some r) x = Holds r x

-- both ends lie in a type
pub record IsIn (t : IntType) (r : Range) : Type 0 where
  pub from : InType t r.lo
  pub to : InType t r.hi

-- some numbers of a, and no others
pub record LiesIn (a r : Range) : Type 0 where
  pub from : a.lo ≤ℤ r.lo
  pub some : r.lo ≤ℤ r.hi
  pub to : r.hi ≤ℤ a.hi

abbrev pub single : ℤ → Range
single z = record { lo = z; hi = z }

-- all numbers of a type
abbrev pub whole : IntType → Range
whole t = record { lo = low_of t; hi = high_of t }

-- the range from lo to hi, if it has a number
abbrev pub range_from : ℤ → ℤ → Option Range
range_from lo hi = if int_le lo hi then Some (record { lo = lo; hi = hi }) else None

-- the least range that has the numbers of both
abbrev pub joined : Range → Range → Range
joined a b = record { lo = int_min a.lo b.lo; hi = int_max a.hi b.hi }

-- the numbers of both
abbrev pub met : Range → Range → Option Range
met a b = range_from (int_max a.lo b.lo) (int_min a.hi b.hi)

abbrev pub is_within : Range → Range → Bool
is_within a b = int_le b.lo a.lo && int_le a.hi b.hi
