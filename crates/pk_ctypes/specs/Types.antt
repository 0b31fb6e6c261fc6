-- The integer types (C99 6.2.5): width, sign, range, rank; and conversion to one of them (C99 6.3.1.3).
use Rattle.std.specs.Prelude.{◌≡◌, ℕ, ◌-◌, ◌^◌, Bool, true, false, ◌&&◌, if◌then◌else◌, ℤ, pos, negsuc, ◌+ℤ◌, ◌-ℤ◌, ◌*ℤ◌, ◌≤ℤ◌, int_le}
use Rattle.std.specs.Int.{int_rem_euclid}
use Rattle.pk_ctypes.specs.declared.types.IntType.{IntType}
use Rattle.pk_ctypes.specs.declared.types.IntType.TheVariants.{Char, SChar, UChar, Short, UShort, Int, UInt, Long, ULong, LLong, ULLong}

-- how many bits a type has
abbrev pub width_of : IntType → ℕ
width_of Char = 8
width_of SChar = 8
width_of UChar = 8
width_of Short = 16
width_of UShort = 16
width_of Int = 32
width_of UInt = 32
width_of Long = 64
width_of ULong = 64
width_of LLong = 64
width_of ULLong = 64

abbrev pub is_signed_of : IntType → Bool
is_signed_of Char = true
is_signed_of SChar = true
is_signed_of UChar = false
is_signed_of Short = true
is_signed_of UShort = false
is_signed_of Int = true
is_signed_of UInt = false
is_signed_of Long = true
is_signed_of ULong = false
is_signed_of LLong = true
is_signed_of ULLong = false

-- conversion rank (C99 6.3.1.1), by its order alone
abbrev pub rank_of : IntType → ℕ
rank_of Char = 1
rank_of SChar = 1
rank_of UChar = 1
rank_of Short = 2
rank_of UShort = 2
rank_of Int = 3
rank_of UInt = 3
rank_of Long = 4
rank_of ULong = 4
rank_of LLong = 5
rank_of ULLong = 5

-- how many numbers a type has
abbrev pub size_of : IntType → ℕ
size_of t = 2 ^ width_of t

-- the least and the greatest number of a type
abbrev pub low_of : IntType → ℤ
low_of t = if is_signed_of t then negsuc (2 ^ (width_of t - 1) - 1) else pos 0

abbrev pub high_of : IntType → ℤ
high_of t = if is_signed_of t then pos (2 ^ (width_of t - 1) - 1) else pos (2 ^ width_of t - 1)

-- a number lies in a type
pub record InType (t : IntType) (z : ℤ) : Type 0 where
  pub from : low_of t ≤ℤ z
  pub to : z ≤ℤ high_of t

abbrev pub is_in_type : IntType → ℤ → Bool
is_in_type t z = int_le (low_of t) z && int_le z (high_of t)

-- a type holds each number of another
abbrev pub Represents : IntType → IntType → Type 0
Represents t u = (z : ℤ) → InType u z → InType t z

abbrev pub represents : IntType → IntType → Bool
represents t u = int_le (low_of t) (low_of u) && int_le (high_of u) (high_of t)

-- a and b differ by a multiple of m
abbrev pub IsEqualModulo : ℕ → ℤ → ℤ → Type 0
IsEqualModulo m a b = (k : ℤ) × (b ≡ a +ℤ k *ℤ pos m)

-- the number of the type that is equal to z modulo the type's size: so far above the least number
abbrev pub wrapped : IntType → ℤ → ℤ
wrapped t z = low_of t +ℤ int_rem_euclid (z -ℤ low_of t) (pos (size_of t))

-- r is a number of the type that is equal to z modulo the type's size
pub record Converts (t : IntType) (z r : ℤ) : Type 0 where
  pub inside : InType t r
  pub same : IsEqualModulo (size_of t) z r

-- f gives that number, and there is no other
pub record IsTheConversion (f : IntType → ℤ → ℤ) : Type 0 where
  pub holds : (t : IntType) (z : ℤ) → Converts t z (f t z)
  pub only : (t : IntType) (z r : ℤ) → Converts t z r → r ≡ f t z
