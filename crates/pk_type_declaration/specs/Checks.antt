-- What is checked in declarations and expressions. The walks go over a text in order and take such a record: they say which scopes, calls and objects there are, and at which forms something may be
-- found; what is found there is the record's matter.
use Rattle.std.specs.Prelude.{ℕ, ℤ, Option}
use Rattle.pk_ctypes.specs.declared.places.Pos.{Pos}
use Rattle.pk_ast.specs.declared.declarations.Specifier.{Specifier}
use Rattle.pk_ast.specs.declared.expressions.Identifier.{Identifier}
use Rattle.pk_ast.specs.Trees.{OneOrMore, ExpressionTree, ExpressionTrees, DeclaratorTree}
use Rattle.pk_type_scope.specs.declared.declarations.Typing.{Typing}
use Rattle.pk_type_scope.specs.Declarations.{Names}
use Rattle.pk_type_scope.specs.Scopes.{Scoping}
use Rattle.pk_type_declaration.specs.declared.constants.Evaluated.{Evaluated}

-- What is found at each form, after what was found before.
pub record DeclarationChecks (F : Type 0) : Type 0 where
  -- an expression whose value is used, one whose value isn't used, and expressions whose values are used
  pub value : Names → ExpressionTree → F → F
  pub effect : Names → ExpressionTree → F → F
  pub values : Names → ExpressionTrees → F → F
  -- an expression that has to be constant, and what it gives: any, the length of an array, the value of an enumerator
  pub constant : Evaluated → ExpressionTree → F → F
  pub length : Evaluated → ExpressionTree → F → F
  pub enumerator : Evaluated → ExpressionTree → F → F
  -- the number of an enumerator without an expression
  pub counted : Option ℤ → Identifier → F → F
  -- the words of a type
  pub words : Names → OneOrMore Specifier → F → F
  -- a name that is declared in these scopes: a tag, an enumerator or a type, an object of a type
  pub tag : Scoping → Identifier → F → F
  pub name : Scoping → Identifier → F → F
  pub object : Scoping → Typing → Identifier → F → F
  -- the columns of an array whose name stands at a place
  pub columns : Pos → F → F
  -- what an object begins with, by the length of an array
  pub start : Option ℕ → DeclaratorTree → F → F

-- nothing is checked: what was found stays
abbrev pub unchecked : DeclarationChecks (Unit {0})
unchecked = record {
  value = λ d e found. found;
  effect = λ d e found. found;
  values = λ d es found. found;
  constant = λ v e found. found;
  length = λ v e found. found;
  enumerator = λ v e found. found;
  counted = λ n x found. found;
  words = λ d words found. found;
  tag = λ s x found. found;
  name = λ s x found. found;
  object = λ s t x found. found;
  columns = λ at found. found;
  start = λ n d found. found;
}
