-- Where texts begin, by hand.
use Rattle.std.proofs.Common.{◌≡◌, ℕ, ◌+◌, false, [], ◌∷◌, Some, refl, map}
use Rattle.pk_ctypes.specs.declared.places.Pos.{Pos}
use Rattle.pk_ctypes.specs.declared.types.IntType.TheVariants as ctype
use Rattle.pk_ast.specs.declared.operators.AssignmentOperator.TheVariants as assignments
use Rattle.pk_ast.specs.declared.operators.BinaryOperator.TheVariants as operators
use Rattle.pk_ast.specs.declared.operators.StepOperator.TheVariants as steps
use Rattle.pk_ast.specs.declared.operators.UnaryOperator.TheVariants as unaries
use Rattle.pk_ast.specs.declared.expressions.Identifier.{Identifier}
use Rattle.pk_ast.specs.Places.{first_place_of, first_place_of_statement}
use Rattle.pk_ast.specs.Trees as tree
use Rattle.pk_ast.specs.Trees.{ExpressionTree}

-- column c of the third line
abbrev column : ℕ → Pos
column c = record { line = 3; column = c }

-- a name of one letter there
abbrev letter : ℕ → Identifier
letter c = record { start = 20 + c; end = 21 + c; at = column c; is_tag = false }

abbrev value : ℕ → ExpressionTree
value c = tree.name (letter c)

-- `a + b * c`, `a++ - b`, `-a < b`, `f(a) ? b : c`, `a[b] = c`, `(a), b`, `a[b][c]`, each from column 5 on
begin_left : map first_place_of
    (tree.binary operators.Add (column 7) (value 5) (tree.binary operators.Multiply (column 11) (value 9) (value 13))
    ∷ tree.binary operators.Subtract (column 9) (tree.postfix steps.Increment (column 6) (value 5)) (value 11)
    ∷ tree.binary operators.Less (column 8) (tree.unary unaries.Minus (column 5) (value 6)) (value 10)
    ∷ tree.conditional (column 10) (tree.call (letter 5) (tree.expression_then (value 7) tree.no_expressions)) (value 12) (value 16)
    ∷ tree.assignment assignments.Assign (column 10) (tree.index (letter 5) (column 6) (value 7)) (value 12)
    ∷ tree.comma (column 8) (tree.parenthesized (column 5) (value 6)) (value 10)
    ∷ tree.element (letter 5) (column 6) (value 7) (column 9) (value 10)
    ∷ []) ≡ column 5 ∷ column 5 ∷ column 5 ∷ column 5 ∷ column 5 ∷ column 5 ∷ column 5 ∷ []
unfolding first_place_of
begin_left = refl

-- `a = 1;`, `{ a; }`, `a: b;`, `return a;`, each from column 5 on
statements_begin : map first_place_of_statement
    (tree.expression_statement (tree.assignment assignments.Assign (column 7) (value 5) (tree.constant (column 9) ctype.Int 1))
    ∷ tree.block (column 5) (tree.statement_then (tree.expression_statement (value 7)) tree.no_items) (column 10)
    ∷ tree.label (letter 5) (tree.expression_statement (value 8))
    ∷ tree.return (column 5) (Some (value 12))
    ∷ []) ≡ column 5 ∷ column 5 ∷ column 5 ∷ column 5 ∷ []
unfolding first_place_of first_place_of_statement
statements_begin = refl
