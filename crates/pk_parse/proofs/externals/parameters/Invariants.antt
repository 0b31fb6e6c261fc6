use Rattle.std.proofs.Common.{◌≤◌, length}
use Rattle.pk_ast.specs.Views.{parameter_trees}
use Rattle.pk_parse.proofs.ParameterLemmas.{ReadsParameters}
use Rattle.pk_parse.proofs.externals.parameters.Given as goal

abbrev pub invariant-loop-word : goal.invariant-loop-word
invariant-loop-word l = ReadsParameters l.parser.end l.tokens (parameter_trees l.list.items) l.rest × (length l.rest ≤ length l.tokens)

abbrev pub decreases-loop-word : goal.decreases-loop-word
decreases-loop-word l = length l.rest
