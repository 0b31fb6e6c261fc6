-- The operators on numbers that the operators of trees stand for.
use Rattle.std.specs.Prelude.{Option, Some, None}
use Rattle.pk_ctypes.specs.declared.types.Op.{Op}
use Rattle.pk_ctypes.specs.declared.types.Op.TheVariants as number
use Rattle.pk_ast.specs.declared.operators.BinaryOperator.{BinaryOperator}
use Rattle.pk_ast.specs.declared.operators.BinaryOperator.TheVariants as binary
use Rattle.pk_ast.specs.declared.operators.UnaryOperator.{UnaryOperator}
use Rattle.pk_ast.specs.declared.operators.UnaryOperator.TheVariants as unary
use Rattle.pk_ast.specs.declared.operators.StepOperator.{StepOperator}
use Rattle.pk_ast.specs.declared.operators.StepOperator.TheVariants as step
use Rattle.pk_ast.specs.declared.operators.AssignmentOperator.{AssignmentOperator}
use Rattle.pk_ast.specs.declared.operators.AssignmentOperator.TheVariants as assignment

-- `&&` and `||` aren't operators on two numbers, since their second operand may not be evaluated
abbrev pub binary_number_operator : BinaryOperator → Option Op
binary_number_operator binary.LogicalOr = None
binary_number_operator binary.LogicalAnd = None
binary_number_operator binary.Or = Some number.Or
binary_number_operator binary.ExclusiveOr = Some number.Xor
binary_number_operator binary.And = Some number.And
binary_number_operator binary.Equal = Some number.Eq
binary_number_operator binary.NotEqual = Some number.Ne
binary_number_operator binary.Less = Some number.Lt
binary_number_operator binary.Greater = Some number.Gt
binary_number_operator binary.LessOrEqual = Some number.Le
binary_number_operator binary.GreaterOrEqual = Some number.Ge
binary_number_operator binary.ShiftLeft = Some number.Shl
binary_number_operator binary.ShiftRight = Some number.Shr
binary_number_operator binary.Add = Some number.Add
binary_number_operator binary.Subtract = Some number.Sub
binary_number_operator binary.Multiply = Some number.Mul
binary_number_operator binary.Divide = Some number.Div
binary_number_operator binary.Remainder = Some number.Rem

-- `+` only promotes its operand
abbrev pub unary_number_operator : UnaryOperator → Option Op
unary_number_operator unary.Plus = None
unary_number_operator unary.Minus = Some number.Neg
unary_number_operator unary.Complement = Some number.BitNot
unary_number_operator unary.Not = Some number.Not

-- of what is stepped, and 1
abbrev pub step_number_operator : StepOperator → Op
step_number_operator step.Increment = number.Add
step_number_operator step.Decrement = number.Sub

-- `=` doesn't read its left side
abbrev pub assignment_number_operator : AssignmentOperator → Option Op
assignment_number_operator assignment.Assign = None
assignment_number_operator assignment.Multiply = Some number.Mul
assignment_number_operator assignment.Divide = Some number.Div
assignment_number_operator assignment.Remainder = Some number.Rem
assignment_number_operator assignment.Add = Some number.Add
assignment_number_operator assignment.Subtract = Some number.Sub
assignment_number_operator assignment.ShiftLeft = Some number.Shl
assignment_number_operator assignment.ShiftRight = Some number.Shr
assignment_number_operator assignment.And = Some number.And
assignment_number_operator assignment.ExclusiveOr = Some number.Xor
assignment_number_operator assignment.Or = Some number.Or
