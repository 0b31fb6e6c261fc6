-- What is known of a number, and the order of what is known, part by part.
use Rattle.std.specs.Prelude.{Bool, ◌&&◌, ℤ, pos, ◌≤ℤ◌, List, Option, Some, None}
use Rattle.pk_ctypes.specs.declared.types.IntType.{IntType}
use Rattle.pk_interval.specs.Ranges.{Range, Holds, IsIn, single, whole}
use Rattle.pk_interval.specs.Ranges as ranges
use Rattle.pk_interval.specs.Widening as widening
use Rattle.pk_congr.specs.Classes.{Class, IsMember, constant, every}
use Rattle.pk_congr.specs.Classes as classes
use Rattle.pk_value.specs.Reduction.{red}

-- a range and a class
pub record Known : Type 0 where
  pub range : Range
  pub class : Class

-- z is one of the numbers
pub record IsOf (k : Known) (z : ℤ) : Type 0 where
  pub in_range : Holds k.range z
  pub in_class : IsMember k.class z

-- something is known, and z is one of the numbers
abbrev pub IsOneOf : Option Known → ℤ → Type 0
IsOneOf None z = ⊥
IsOneOf (Some k) z = IsOf k z

-- what is known of a number of a type: its range lies in the type
pub record IsKnown (t : IntType) (k : Known) : Type 0 where
  pub inside : IsIn t k.range
  pub modulus : pos 0 ≤ℤ k.class.m

-- any number of a type
abbrev pub any_of : IntType → Known
any_of t = record { range = whole t; class = every }

-- one number
abbrev pub exactly : ℤ → Known
exactly z = record { range = single z; class = constant z }

-- ---- reduction

abbrev pub known_of : Option (Range × Class) → Option Known
known_of None = None
known_of (Some p) = Some (record { range = p.0; class = p.1 })

abbrev pub red_known : Known → Option Known
red_known k = known_of (red k.range k.class)

-- ---- order

abbrev pub joined : Known → Known → Known
joined a b = record { range = ranges.joined a.range b.range; class = classes.joined a.class b.class }

abbrev pub is_within : Known → Known → Bool
is_within a b = ranges.is_within a.range b.range && classes.is_within a.class b.class

abbrev pub widened : IntType → List ℤ → Known → Known → Known
widened t thresholds h n =
    record { range = widening.widened t thresholds h.range n.range; class = classes.widened h.class n.class }

abbrev pub narrowed : IntType → Known → Known → Known
narrowed t h n = record { range = widening.narrowed t h.range n.range; class = classes.narrowed h.class n.class }
