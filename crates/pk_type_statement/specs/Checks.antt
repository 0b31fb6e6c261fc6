-- What is checked in statements: a record that the walk over them takes, beside that of declarations.
use Rattle.std.specs.Prelude.{List, Option}
use Rattle.pk_ctypes.specs.declared.places.Pos.{Pos}
use Rattle.pk_ast.specs.Trees.{ExpressionTree}
use Rattle.pk_type_scope.specs.declared.declarations.Typing.{Typing}
use Rattle.pk_type_declaration.specs.Checks as declarations
use Rattle.pk_type_declaration.specs.Checks.{DeclarationChecks}
use Rattle.pk_type_statement.specs.declared.statements.Case.{Case}

-- What is found at each form, after what was found before.
pub record StatementChecks (F : Type 0) : Type 0 where
  pub declarations : DeclarationChecks F
  -- a `return` at a place, with a value or without one, in a function that returns a type
  pub return : Typing → Pos → Option ExpressionTree → F → F
  -- the cases of a `switch` over a type, at its end
  pub cases : Typing → List Case → F → F

-- nothing is checked: what was found stays
abbrev pub unchecked : StatementChecks (Unit {0})
unchecked = record {
  declarations = declarations.unchecked;
  return = λ t at e found. found;
  cases = λ t cases found. found;
}
