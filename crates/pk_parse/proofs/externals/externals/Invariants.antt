use Rattle.std.proofs.Common.{◌≡◌, [], length}
use Rattle.pk_ast.specs.Views.{external_trees}
use Rattle.pk_grammar.specs.Machine.States.{top}
use Rattle.pk_grammar.specs.Machine.Running.{run}
use Rattle.pk_parse.proofs.externals.externals.Given as goal

abbrev pub invariant-loop-rest : goal.invariant-loop-rest
invariant-loop-rest l = run l.parser.end (top []) l.tokens ≡ run l.parser.end (top (external_trees l.list.items)) l.rest

abbrev pub decreases-loop-rest : goal.decreases-loop-rest
decreases-loop-rest l = length l.rest
