-- Integer promotions (C99 6.3.1.1) and the usual arithmetic conversions (C99 6.3.1.8), each as a function and in the standard's words.
use Rattle.std.specs.Prelude.{◌≡◌, ◌<◌, ◌≤◌, nat_lt, nat_le, Bool, true, false, not, if◌then◌else◌}
use Rattle.pk_ctypes.specs.declared.types.IntType.{IntType}
use Rattle.pk_ctypes.specs.declared.types.IntType.TheVariants.{Char, SChar, UChar, Short, UShort, Int, UInt, Long, ULong, LLong, ULLong}
use Rattle.pk_ctypes.specs.Types.{is_signed_of, rank_of, Represents, represents}

-- the integer promotion of a type
abbrev pub promoted : IntType → IntType
promoted Char = Int
promoted SChar = Int
promoted UChar = Int
promoted Short = Int
promoted UShort = Int
promoted Int = Int
promoted UInt = UInt
promoted Long = Long
promoted ULong = ULong
promoted LLong = LLong
promoted ULLong = ULLong

-- A type of the rank of int or less becomes int where int represents all its values, else unsigned int. All other types are unchanged.
pub record ArePromotions (f : IntType → IntType) : Type 0 where
  pub to_int : (t : IntType) → rank_of t ≤ rank_of Int → Represents Int t → f t ≡ Int
  pub to_unsigned : (t : IntType) → rank_of t ≤ rank_of Int → (Represents Int t → ⊥) → f t ≡ UInt
  pub unchanged : (t : IntType) → rank_of Int < rank_of t → f t ≡ t

-- the unsigned integer type that corresponds to a type
abbrev pub unsigned_of : IntType → IntType
unsigned_of Char = UChar
unsigned_of SChar = UChar
unsigned_of UChar = UChar
unsigned_of Short = UShort
unsigned_of UShort = UShort
unsigned_of Int = UInt
unsigned_of UInt = UInt
unsigned_of Long = ULong
unsigned_of ULong = ULong
unsigned_of LLong = ULLong
unsigned_of ULLong = ULLong

-- the common type of a signed and an unsigned type, both promoted
abbrev pub mixed_of : (signed unsigned : IntType) → IntType
mixed_of s u = if nat_le (rank_of s) (rank_of u) then u else (if represents s u then s else unsigned_of s)

abbrev pub same_sign : Bool → Bool → Bool
same_sign true b = b
same_sign false b = not b

-- the common type of two promoted types
abbrev pub common_of : IntType → IntType → IntType
common_of a b =
    if same_sign (is_signed_of a) (is_signed_of b) then (if nat_lt (rank_of a) (rank_of b) then b else a)
    else (if is_signed_of a then mixed_of a b else mixed_of b a)

abbrev pub usual_of : IntType → IntType → IntType
usual_of a b = common_of (promoted a) (promoted b)

abbrev pub IsPromoted : IntType → Type 0
IsPromoted t = promoted t ≡ t

-- The integer promotions are performed on both operands. Then the paragraph's rules, in its order.
pub record AreUsualConversions (f : IntType → IntType → IntType) : Type 0 where
  pub promotes : (a b : IntType) → f a b ≡ f (promoted a) (promoted b)
  pub symmetric : (a b : IntType) → f a b ≡ f b a
  -- both have the same type
  pub same : (t : IntType) → IsPromoted t → f t t ≡ t
  -- both are signed or both unsigned: that of the greater rank
  pub greater : (a b : IntType) → IsPromoted a → IsPromoted b → is_signed_of a ≡ is_signed_of b →
      rank_of a < rank_of b → f a b ≡ b
  -- the unsigned one has a rank greater than or equal to the other's: that one
  pub unsigned : (s u : IntType) → IsPromoted s → IsPromoted u → is_signed_of s ≡ true → is_signed_of u ≡ false →
      rank_of s ≤ rank_of u → f s u ≡ u
  -- the signed one can represent all values of the unsigned one: that one
  pub signed : (s u : IntType) → IsPromoted s → IsPromoted u → is_signed_of s ≡ true → is_signed_of u ≡ false →
      rank_of u < rank_of s → Represents s u → f s u ≡ s
  -- otherwise the unsigned type that corresponds to the signed one
  pub neither : (s u : IntType) → IsPromoted s → IsPromoted u → is_signed_of s ≡ true → is_signed_of u ≡ false →
      rank_of u < rank_of s → (Represents s u → ⊥) → f s u ≡ unsigned_of s
