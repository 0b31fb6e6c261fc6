use Rattle.std.proofs.Common.{◌≡◌, ◌++◌, drop}
use Rattle.pk_ast.specs.Views.{parameter_trees}
use Rattle.pk_type_scope.specs.Scopes.{names_in, scoping_of}
use Rattle.pk_type.specs.Signatures.{types_of}
use Rattle.pk_type.proofs.signatures.types_of.Given as goal

abbrev pub invariant-loop-parameter : goal.invariant-loop-parameter
invariant-loop-parameter l = (let d = names_in (scoping_of l.scope) in l.types.items ++ types_of d (parameter_trees (drop l.parameter-index l.list)) ≡ types_of d (parameter_trees l.list))
