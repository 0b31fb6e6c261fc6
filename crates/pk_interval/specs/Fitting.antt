-- Ranges of results in a type: clamped to a signed one, wrapped into an unsigned one.
use Rattle.std.specs.Prelude.{if◌then◌else◌, ℤ, pos, ◌+ℤ◌, ◌-ℤ◌, int_le, Option, Some, None}
use Rattle.std.specs.Int.{int_min, int_max}
use Rattle.pk_ctypes.specs.declared.types.IntType.{IntType}
use Rattle.pk_ctypes.specs.Types.{low_of, high_of, is_signed_of, wrapped}
use Rattle.pk_interval.specs.declared.outcome.Outcome.{Outcome}
use Rattle.pk_interval.specs.declared.outcome.Outcome.TheVariants.{Empty, Within, TooLarge}
use Rattle.pk_interval.specs.Ranges.{Range, whole, range_from}

-- the numbers that lie in the type
abbrev pub clamped : IntType → Range → Option Range
clamped t a = range_from (int_max a.lo (low_of t)) (int_min a.hi (high_of t))

-- moved by a number
abbrev pub moved : Range → ℤ → Range
moved a by = record { lo = a.lo +ℤ by; hi = a.hi +ℤ by }

-- What takes the least number into the type takes the others there too, where all lie in one window of the type's size. Else the type is all that is known.
abbrev pub moved_if : IntType → Range → ℤ → Range × Option ℤ
moved_if t a by = if int_le (a.hi +ℤ by) (high_of t) then (moved a by, Some by) else (whole t, None)

-- the conversions of the numbers of a range, and what was added to each, if it was one number
abbrev pub shifted : IntType → Range → Range × Option ℤ
shifted t a = moved_if t a (wrapped t a.lo -ℤ a.lo)

-- What an operator gives, in the type. A product that can't be held is one of an unsigned type, of which nothing more is known.
abbrev pub finished : IntType → Outcome → Option Range
finished t Empty = None
finished t (Within r) = if is_signed_of t then clamped t r else Some (shifted t r).0
finished t TooLarge = Some (whole t)

-- a range to whose numbers nothing was added
abbrev pub unmoved : Option Range → Option (Range × Option ℤ)
unmoved None = None
unmoved (Some r) = Some (r, Some (pos 0))

-- the same, and what was added to each number, if that was one number
abbrev pub finish_of : IntType → Outcome → Option (Range × Option ℤ)
finish_of t Empty = None
finish_of t (Within r) = if is_signed_of t then unmoved (clamped t r) else Some (shifted t r)
finish_of t TooLarge = Some (whole t, None)
