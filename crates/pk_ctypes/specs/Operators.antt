-- What an operator gives at numbers, or the fault at which the run stops (C99 6.5).
use Rattle.std.specs.Prelude.{ℕ, ◌-◌, ◌^◌, Bool, true, false, not, ◌&&◌, if◌then◌else◌, ℤ, pos, ◌+ℤ◌, ◌-ℤ◌, ◌*ℤ◌, neg_ℤ, int_lt, int_le, int_div, int_rem, unsigned_abs, bit_and, bit_or, bit_xor, Result, Ok, Err}
use Rattle.std.specs.Ordering.{int_eq}
use Rattle.std.specs.Int.{int_rem_euclid, int_shr}
use Rattle.pk_ctypes.specs.declared.types.IntType.{IntType}
use Rattle.pk_ctypes.specs.declared.types.IntType.TheVariants.{Int}
use Rattle.pk_ctypes.specs.declared.types.Op.{Op}
use Rattle.pk_ctypes.specs.declared.types.Op.TheVariants.{Add, Sub, Mul, Div, Rem, Shl, Shr, And, Or, Xor, Lt, Gt, Le, Ge, Eq, Ne, Neg, BitNot, Not}
use Rattle.pk_ctypes.specs.Classes.{OperatorClass, arithmetic, shift, comparison, unary, negation, class_of}
use Rattle.pk_ctypes.specs.declared.faults.Fault.{Fault}
use Rattle.pk_ctypes.specs.declared.faults.Fault.TheVariants.{DivZero, Overflow, Shift}
use Rattle.pk_ctypes.specs.Types.{width_of, is_signed_of, size_of, InType, is_in_type, wrapped}

-- 1 where the test holds
abbrev pub truth : Bool → ℤ
truth b = if b then pos 1 else pos 0

-- `!` turns a truth round (C99 6.5.3.3)
abbrev pub is_negation : OperatorClass → Bool
is_negation arithmetic = false
is_negation shift = false
is_negation comparison = false
is_negation unary = false
is_negation negation = true

abbrev pub is_not : Op → Bool
is_not op = is_negation (class_of op)

-- the divisor is not 0 (C99 6.5.5)
abbrev pub divided : ℤ → Result ℤ Fault → Result ℤ Fault
divided b r = if int_eq b (pos 0) then Err DivZero else r

-- the rest, where the quotient is a number of the type (C99 6.5.5)
abbrev pub rest_of : IntType → ℤ → ℤ → Result ℤ Fault
rest_of t a b = if is_in_type t (int_div a b) then Ok (int_rem a b) else Err Overflow

-- a shift's count is one of 0 to the width less 1 (C99 6.5.7)
abbrev pub is_count : IntType → ℤ → Bool
is_count t b = int_le (pos 0) b && int_lt b (pos (width_of t))

abbrev pub counted : IntType → ℤ → (ℕ → Result ℤ Fault) → Result ℤ Fault
counted t b f = if is_count t b then f (unsigned_abs b) else Err Shift

-- a signed number that is shifted to the left is not negative (C99 6.5.7)
abbrev pub is_below_zero : IntType → ℤ → Bool
is_below_zero t a = is_signed_of t && int_lt a (pos 0)

abbrev pub doubled : IntType → ℤ → ℕ → Result ℤ Fault
doubled t a n = if is_below_zero t a then Err Shift else Ok (a *ℤ pos (2 ^ n))

-- the bits of a number in two's complement, as many as the type has
abbrev pub bits_of : IntType → ℤ → ℕ
bits_of t z = unsigned_abs (int_rem_euclid z (pos (size_of t)))

-- the number of the type that has the bits that f makes of the bits of both
abbrev pub bitwise : (ℕ → ℕ → ℕ) → IntType → ℤ → ℤ → ℤ
bitwise f t a b = wrapped t (pos (f (bits_of t a) (bits_of t b)))

-- the number of the type that has each bit where the other has it not
abbrev pub complement : IntType → ℤ → ℤ
complement t a = wrapped t (pos (size_of t - 1 - bits_of t a))

-- First stage: the number that the operator stands for, before it is fitted to the type of its operands, or a fault that no such number has.
abbrev pub exact : Op → IntType → ℤ → ℤ → Result ℤ Fault
exact Add t a b = Ok (a +ℤ b)
exact Sub t a b = Ok (a -ℤ b)
exact Mul t a b = Ok (a *ℤ b)
exact Div t a b = divided b (Ok (int_div a b))
exact Rem t a b = divided b (rest_of t a b)
exact Shl t a b = counted t b (doubled t a)
exact Shr t a b = counted t b (λ n. Ok (int_shr a n))
exact And t a b = Ok (bitwise bit_and t a b)
exact Or t a b = Ok (bitwise bit_or t a b)
exact Xor t a b = Ok (bitwise bit_xor t a b)
exact Lt t a b = Ok (truth (int_lt a b))
exact Gt t a b = Ok (truth (int_lt b a))
exact Le t a b = Ok (truth (int_le a b))
exact Ge t a b = Ok (truth (int_le b a))
exact Eq t a b = Ok (truth (int_eq a b))
exact Ne t a b = Ok (truth (not (int_eq a b)))
exact Neg t a b = Ok (neg_ℤ a)
exact BitNot t a b = Ok (complement t a)
exact Not t a b = Ok (truth (int_eq a (pos 0)))

-- the fault where a signed type has no room for that number
abbrev pub fault_of : OperatorClass → Fault
fault_of arithmetic = Overflow
fault_of shift = Shift
fault_of comparison = Overflow
fault_of unary = Overflow
fault_of negation = Overflow

abbrev pub fault_past : Op → Fault
fault_past op = fault_of (class_of op)

-- Second stage: a signed type has the number or not (C99 6.5 paragraph 5), an unsigned one wraps it (C99 6.2.5 paragraph 9).
abbrev pub fitted : Fault → IntType → ℤ → Result ℤ Fault
fitted fault t z = if is_signed_of t then (if is_in_type t z then Ok z else Err fault) else Ok (wrapped t z)

abbrev pub fitted_if : Fault → IntType → Result ℤ Fault → Result ℤ Fault
fitted_if fault t (Ok z) = fitted fault t z
fitted_if fault t (Err f) = Err f

-- The value of an operator at operands of a type; a shift's count may be any number.
abbrev pub value_of : Op → IntType → ℤ → ℤ → Result ℤ Fault
value_of op t a b = fitted_if (fault_past op) t (exact op t a b)

-- what is asked of the right operand: nothing of a shift's count, and a unary operator has none
abbrev pub IsRightOf : OperatorClass → IntType → ℤ → Type 0
IsRightOf arithmetic t b = InType t b
IsRightOf shift t b = Unit {0}
IsRightOf comparison t b = InType t b
IsRightOf unary t b = Unit {0}
IsRightOf negation t b = Unit {0}

abbrev pub HasRight : Op → IntType → ℤ → Type 0
HasRight op t b = IsRightOf (class_of op) t b

-- comparisons and `!` give an int (C99 6.5.3.3, 6.5.8, 6.5.9), the others a number of the operands' type
abbrev pub type_given : OperatorClass → IntType → IntType
type_given arithmetic t = t
type_given shift t = t
type_given comparison t = Int
type_given unary t = t
type_given negation t = Int

abbrev pub result_type : Op → IntType → IntType
result_type op t = type_given (class_of op) t

-- the right operand, converted to the operator's type but for a shift's count (C99 6.5.7)
abbrev pub converted_unless_count : OperatorClass → IntType → ℤ → ℤ
converted_unless_count arithmetic t w = wrapped t w
converted_unless_count shift t w = w
converted_unless_count comparison t w = wrapped t w
converted_unless_count unary t w = wrapped t w
converted_unless_count negation t w = wrapped t w

abbrev pub right_number : Op → IntType → ℤ → ℤ
right_number op t w = converted_unless_count (class_of op) t w
