-- The operators by what they are asked for and what they give (C99 6.5.3.3, 6.5.5 to 6.5.12).
use Rattle.pk_ctypes.specs.declared.types.Op.{Op}
use Rattle.pk_ctypes.specs.declared.types.Op.TheVariants.{Add, Sub, Mul, Div, Rem, Shl, Shr, And, Or, Xor, Lt, Gt, Le, Ge, Eq, Ne, Neg, BitNot, Not}

pub data OperatorClass : Type 0 where
  -- a number of the operands' common type
  arithmetic : OperatorClass
  -- the same, of the left operand's type; the right one is a count
  shift : OperatorClass
  -- a truth of two numbers
  comparison : OperatorClass
  -- a number of the one operand's type
  unary : OperatorClass
  -- a truth of one number
  negation : OperatorClass

abbrev pub class_of : Op → OperatorClass
class_of Add = arithmetic
class_of Sub = arithmetic
class_of Mul = arithmetic
class_of Div = arithmetic
class_of Rem = arithmetic
class_of And = arithmetic
class_of Or = arithmetic
class_of Xor = arithmetic
class_of Shl = shift
class_of Shr = shift
class_of Lt = comparison
class_of Gt = comparison
class_of Le = comparison
class_of Ge = comparison
class_of Eq = comparison
class_of Ne = comparison
class_of Neg = unary
class_of BitNot = unary
class_of Not = negation
