-- The type of an expression, also where a rule fails in it (C99 6.5).
use Rattle.std.specs.Prelude.{Option, Some, None, if◌then◌else◌}
use Rattle.pk_ctypes.specs.declared.places.Pos.{Pos}
use Rattle.pk_ctypes.specs.declared.types.IntType.{IntType}
use Rattle.pk_ctypes.specs.declared.types.IntType.TheVariants.{Int}
use Rattle.pk_ctypes.specs.declared.types.Op.{Op}
use Rattle.pk_ctypes.specs.Classes.{OperatorClass, shift, class_of}
use Rattle.pk_ctypes.specs.Conversions.{promoted, usual_of}
use Rattle.pk_ctypes.specs.Operators.{result_type}
use Rattle.pk_ast.specs.Operators.{binary_number_operator, unary_number_operator}
use Rattle.pk_ast.specs.Trees.{ExpressionTree, name, call, index, element, constant, character, parenthesized, postfix, prefix, unary, cast, binary, conditional, assignment, comma}
use Rattle.pk_type_scope.specs.declared.declarations.Declaration.{Declaration}
use Rattle.pk_type_scope.specs.declared.declarations.Declaration.TheVariants as declared
use Rattle.pk_type_scope.specs.declared.declarations.Object.{Object}
use Rattle.pk_type_expression.specs.declared.names.Target.{Target}
use Rattle.pk_type_scope.specs.declared.declarations.Typing.{Typing}
use Rattle.pk_type_scope.specs.declared.declarations.Typing.TheVariants.{Integer, Unknown}
use Rattle.pk_type_scope.specs.Declarations.{Names, typing_of, returned_by}
use Rattle.pk_type_scope.specs.Specifiers.{type_named}

-- The type to which the operands of a binary operator are converted: their common type (6.3.1.8). The operands of a shift are promoted one by one (6.5.7), so for it
-- that is the left one's; promoting the count changes no value.
abbrev pub common_of_class : OperatorClass → IntType → IntType → IntType
common_of_class shift t u = promoted t
common_of_class class t u = usual_of t u

abbrev pub operand_type : Op → IntType → IntType → IntType
operand_type op t u = common_of_class (class_of op) t u

-- what an assignment may change: a scalar, or an element, with the place of its `[`
abbrev pub scalar_target : Object → Option Target
scalar_target o =
    if o.is_array then None
    else Some (record { variable = o.variable; int_type = o.int_type; is_const = o.is_const; bracket = None })

abbrev pub element_target : Pos → Object → Option Target
element_target at o =
    if o.is_array then Some
    (record { variable = o.variable; int_type = o.int_type; is_const = o.is_const; bracket = Some at }) else None

abbrev pub of_object : {A : Type 0} → (Object → Option A) → Option Declaration → Option A
of_object f (Some (declared.Object o)) = f o
of_object f d = None

-- What an expression lets change, through parentheses (6.5.1, 6.3.2.1). No array has rows and columns, so two indices give nothing.
unfoldable pub target_of : Names → ExpressionTree → Option Target
target_of d (name x) = of_object scalar_target (d x)
target_of d (index x at e) = of_object (element_target at) (d x)
target_of d (parenthesized at e) = target_of d e
target_of d e = None

abbrev pub type_of_target : Option Target → Typing
type_of_target None = Unknown
type_of_target (Some t) = typing_of t.int_type

-- an enumerator is an int (6.4.4.3)
abbrev pub type_of_name : Option Declaration → Typing
type_of_name (Some (declared.Object o)) = type_of_target (scalar_target o)
type_of_name (Some (declared.Enumerator n)) = Integer Int
type_of_name d = Unknown

abbrev pub type_of_call : Option Declaration → Typing
type_of_call (Some (declared.Function f)) = returned_by f.callee
type_of_call d = Unknown

-- where it is of an integer type
abbrev pub of_integer : (IntType → IntType) → Typing → Typing
of_integer f (Integer t) = Integer (f t)
of_integer f t = Unknown

-- where both are of an integer type
abbrev pub of_integers : (IntType → IntType → IntType) → Typing → Typing → Typing
of_integers f (Integer t) (Integer u) = Integer (f t u)
of_integers f t u = Unknown

abbrev pub unary_type : Option Op → IntType → IntType
unary_type None t = promoted t
unary_type (Some op) t = result_type op (promoted t)

-- `&&` and `||` give an int (6.5.13, 6.5.14)
abbrev pub binary_type : Option Op → IntType → IntType → IntType
binary_type None t u = Int
binary_type (Some op) t u = result_type op (operand_type op t u)

unfoldable pub type_of : Names → ExpressionTree → Typing
type_of d (name x) = type_of_name (d x)
type_of d (call x es) = type_of_call (d x)
type_of d (index x at e) = type_of_target (target_of d (index x at e))
type_of d (element x at e column_at c) = type_of_target (target_of d (element x at e column_at c))
type_of d (constant at t n) = Integer t
type_of d (character at n) = Integer Int
type_of d (parenthesized at e) = type_of d e
type_of d (postfix op at e) = type_of_target (target_of d e)
type_of d (prefix op at e) = type_of_target (target_of d e)
type_of d (unary op at e) = of_integer (unary_type (unary_number_operator op)) (type_of d e)
type_of d (cast at words e) = type_named d words
type_of d (binary op at a b) = of_integers (binary_type (binary_number_operator op)) (type_of d a) (type_of d b)
type_of d (conditional at a b c) = of_integers usual_of (type_of d b) (type_of d c)
type_of d (assignment op at a b) = type_of_target (target_of d a)
type_of d (comma at a b) = type_of d b
