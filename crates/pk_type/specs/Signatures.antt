-- The types of functions (C99 6.7.5.3).
use Rattle.std.specs.Prelude.{List, map}
use Rattle.pk_ast.specs.Trees.{ParameterTree, FunctionTree}
use Rattle.pk_type_scope.specs.declared.declarations.Typing.{Typing}
use Rattle.pk_type_scope.specs.Declarations.{Names}
use Rattle.pk_type_scope.specs.Specifiers.{type_named}

pub record SignatureTree : Type 0 where
  pub returns : Typing
  pub parameters : List Typing

abbrev pub types_of : Names → List ParameterTree → List Typing
types_of d = map (λ p. type_named d p.specifiers)

abbrev pub signature_of : Names → FunctionTree → SignatureTree
signature_of d f = record { returns = type_named d f.specifiers; parameters = types_of d f.parameters }
