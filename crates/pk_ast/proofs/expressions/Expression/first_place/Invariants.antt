-- What is left begins where the whole does.
use Rattle.std.proofs.Common.{◌≡◌}
use Rattle.pk_ast.specs.Places.{first_place_of}
use Rattle.pk_ast.specs.Views.{expression_tree}
use Rattle.pk_ast.proofs.expressions.Expression.first_place.Given as goal

abbrev pub invariant-loop-e : goal.invariant-loop-e
invariant-loop-e l = first_place_of (expression_tree l.e) ≡ first_place_of (expression_tree l.fn.self)
