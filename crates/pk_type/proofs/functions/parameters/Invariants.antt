use Rattle.std.proofs.Common.{◌≡◌, drop}
use Rattle.pk_ast.specs.Views.{parameter_trees}
use Rattle.pk_type_declaration.specs.Views.{walked_in}
use Rattle.pk_type.specs.Functions.{after_parameters}
use Rattle.pk_type.specs.Rules.{noting}
use Rattle.pk_type.proofs.functions.parameters.Given as goal

abbrev pub invariant-loop-p : goal.invariant-loop-p
invariant-loop-p l = after_parameters noting (parameter_trees (drop l.p-index l.list)) (walked_in l.walk) ≡ after_parameters noting (parameter_trees l.list) (walked_in l.initial.walk)
