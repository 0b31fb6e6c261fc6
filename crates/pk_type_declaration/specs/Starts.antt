-- What objects begin with that hold it when a run begins (C99 6.7.8): constants.
use Rattle.std.specs.Prelude.{ℕ, ℤ, pos, Option, Some, None, List, [], ◌∷◌}
use Rattle.pk_ctypes.specs.declared.types.IntType.{IntType}
use Rattle.pk_ctypes.specs.Types.{wrapped}
use Rattle.pk_ast.specs.Trees.{ExpressionTree, ExpressionTrees, no_expressions, expression_then, InitializerTree}
use Rattle.pk_typed.specs.Trees.{StartTree, scalar_start, array_start}
use Rattle.pk_type_declaration.specs.Checks.{DeclarationChecks}
use Rattle.pk_type_declaration.specs.Constants.{evaluated, number_in, after_constant}
use Rattle.pk_type_declaration.specs.Initializers.{given}
use Rattle.pk_type_declaration.specs.Walks.{Walked}

-- a value that an object begins with, converted to its type; 0 where a failure leaves it out
abbrev pub number_or_0 : IntType → Option ℤ → ℤ
number_or_0 t None = pos 0
number_or_0 t (Some n) = wrapped t n

abbrev pub number_at : {F : Type 0} → IntType → Walked F → ExpressionTree → ℤ
number_at t w e = number_or_0 t (number_in (evaluated w e))

unfoldable pub after_numbers : {F : Type 0} → DeclarationChecks F → ExpressionTrees → Walked F → Walked F
after_numbers c no_expressions w = w
after_numbers c (expression_then e es) w = after_numbers c es (after_constant c e w)

unfoldable pub numbers_at : {F : Type 0} → DeclarationChecks F → IntType → ExpressionTrees → Walked F → List ℤ
numbers_at c t no_expressions w = []
numbers_at c t (expression_then e es) w = number_at t w e ∷ numbers_at c t es (after_constant c e w)

abbrev pub first_or_0 : List ℤ → ℤ
first_or_0 [] = pos 0
first_or_0 (n ∷ ns) = n

abbrev pub start_of : Option ℕ → List ℤ → StartTree
start_of None ns = scalar_start (first_or_0 ns)
start_of (Some n) ns = array_start n ns

-- a scalar's or an array's start; each value that is given has to be constant
abbrev pub start_at : {F : Type 0} → DeclarationChecks F → IntType → Option ℕ → Option InitializerTree → Walked F →
    StartTree
start_at c t n first w = start_of n (numbers_at c t (given first) w)
