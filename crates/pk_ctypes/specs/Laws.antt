-- What the standard says of the operators, over their definition.
use Rattle.std.specs.Prelude.{◌≡◌, ◌<◌, ◌≤◌, ◌-◌, ◌+◌, ◌^◌, ◌↔◌, ◌⊎◌, ℕ, true, false, ℤ, pos, negsuc, ◌+ℤ◌, ◌-ℤ◌, ◌*ℤ◌, ◌≤ℤ◌, ◌<ℤ◌, neg_ℤ, unsigned_abs, bit_and, bit_or, bit_xor, Ok, Err}
use Rattle.pk_ctypes.specs.declared.types.IntType.{IntType}
use Rattle.pk_ctypes.specs.declared.types.Op.{Op}
use Rattle.pk_ctypes.specs.declared.types.Op.TheVariants.{Add, Sub, Mul, Div, Rem, Shl, Shr, Lt, Gt, Le, Ge, Eq, Ne, Neg, Not}
use Rattle.pk_ctypes.specs.declared.faults.Fault.{Fault}
use Rattle.pk_ctypes.specs.declared.faults.Fault.TheVariants.{DivZero, Overflow, Shift}
use Rattle.pk_ctypes.specs.Types.{width_of, is_signed_of, size_of, low_of, high_of, InType}
use Rattle.pk_ctypes.specs.Operators.{HasRight, bits_of, bitwise, complement, value_of, result_type}

-- An operator gives a number of its type.
abbrev pub ValuesLieInTheirType : Type 0
ValuesLieInTheirType =
    (op : Op) (t : IntType) (a b z : ℤ) → InType t a → HasRight op t b → value_of op t a b ≡ Ok z →
    InType (result_type op t) z

-- q is the algebraic quotient with its fraction discarded, and r the rest (C99 6.5.5 paragraph 6)
pub record IsTruncatedDivision (a b q r : ℤ) : Type 0 where
  pub whole : q *ℤ b +ℤ r ≡ a
  pub toward_zero : unsigned_abs (q *ℤ b) ≤ unsigned_abs a
  pub smaller : unsigned_abs r < unsigned_abs b
  pub not_negative : pos 0 ≤ℤ a → pos 0 ≤ℤ r
  pub not_positive : a ≤ℤ pos 0 → r ≤ℤ pos 0

-- `/` and `%` give them, and no others are
pub record DividesTowardZero : Type 0 where
  pub holds : (t : IntType) (a b q r : ℤ) → InType t a → InType t b → value_of Div t a b ≡ Ok q →
      value_of Rem t a b ≡ Ok r → IsTruncatedDivision a b q r
  pub only : (a b q r q' r' : ℤ) → IsTruncatedDivision a b q r → IsTruncatedDivision a b q' r' → (q ≡ q') × (r ≡ r')

-- the operators whose value says whether something holds
pub data IsComparison : Op → Type 0 where
  less : IsComparison Lt
  greater : IsComparison Gt
  at_most : IsComparison Le
  at_least : IsComparison Ge
  equal : IsComparison Eq
  different : IsComparison Ne
  negation : IsComparison Not

-- C99 6.5.3.3 paragraph 5, 6.5.8 paragraph 6, 6.5.9 paragraph 3
abbrev pub ComparisonsAreTruths : Type 0
ComparisonsAreTruths =
    (op : Op) (t : IntType) (a b : ℤ) → IsComparison op →
    (value_of op t a b ≡ Ok (pos 0)) ⊎ (value_of op t a b ≡ Ok (pos 1))

-- a count of bits from 0 to the width less 1
pub record IsCount (t : IntType) (b : ℤ) : Type 0 where
  pub from : pos 0 ≤ℤ b
  pub below : b <ℤ pos (width_of t)

-- The operations that fault, and how: one line for each place in the table of operators.
pub data FaultsWith (t : IntType) (a b : ℤ) : Op → Fault → Type 0 where
  sum_past : is_signed_of t ≡ true → (InType t (a +ℤ b) → ⊥) → FaultsWith t a b Add Overflow
  difference_past : is_signed_of t ≡ true → (InType t (a -ℤ b) → ⊥) → FaultsWith t a b Sub Overflow
  product_past : is_signed_of t ≡ true → (InType t (a *ℤ b) → ⊥) → FaultsWith t a b Mul Overflow
  negative_past : is_signed_of t ≡ true → (InType t (neg_ℤ a) → ⊥) → FaultsWith t a b Neg Overflow
  quotient_by_zero : b ≡ pos 0 → FaultsWith t a b Div DivZero
  rest_by_zero : b ≡ pos 0 → FaultsWith t a b Rem DivZero
  quotient_past : is_signed_of t ≡ true → a ≡ low_of t → b ≡ negsuc 0 → FaultsWith t a b Div Overflow
  rest_past : is_signed_of t ≡ true → a ≡ low_of t → b ≡ negsuc 0 → FaultsWith t a b Rem Overflow
  left_by_no_count : (IsCount t b → ⊥) → FaultsWith t a b Shl Shift
  right_by_no_count : (IsCount t b → ⊥) → FaultsWith t a b Shr Shift
  left_of_negative : is_signed_of t ≡ true → a <ℤ pos 0 → FaultsWith t a b Shl Shift
  left_past : (n : ℕ) → is_signed_of t ≡ true → b ≡ pos n → (InType t (a *ℤ pos (2 ^ n)) → ⊥) →
      FaultsWith t a b Shl Shift

abbrev pub FaultsAreTheTable : Type 0
FaultsAreTheTable =
    (op : Op) (t : IntType) (a b : ℤ) (f : Fault) → InType t a → HasRight op t b →
    (value_of op t a b ≡ Err f) ↔ FaultsWith t a b op f

-- Each bit of a bitwise result is made of the operands' bits at its place (C99 6.5.3.3 paragraph 4, 6.5.10 to 6.5.12).
pub record BitsAreMade : Type 0 where
  pub both : (t : IntType) (a b : ℤ) → bits_of t (bitwise bit_and t a b) ≡ bit_and (bits_of t a) (bits_of t b)
  pub either : (t : IntType) (a b : ℤ) → bits_of t (bitwise bit_or t a b) ≡ bit_or (bits_of t a) (bits_of t b)
  pub one : (t : IntType) (a b : ℤ) → bits_of t (bitwise bit_xor t a b) ≡ bit_xor (bits_of t a) (bits_of t b)
  pub other : (t : IntType) (a : ℤ) → bits_of t (complement t a) + bits_of t a ≡ size_of t - 1
  -- in numbers: the greatest less a where the type is unsigned
  pub signed : (t : IntType) (a : ℤ) → is_signed_of t ≡ true → InType t a → complement t a ≡ negsuc 0 -ℤ a
  pub unsigned : (t : IntType) (a : ℤ) → is_signed_of t ≡ false → InType t a → complement t a ≡ high_of t -ℤ a
