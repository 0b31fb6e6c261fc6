use Rattle.std.proofs.Common.{◌≤◌, length}
use Rattle.pk_ast.specs.Views.{expression_trees}
use Rattle.pk_parse.specs.Parts.{GoesOn}
use Rattle.pk_parse.proofs.InitializerLemmas.{ReadsValues}
use Rattle.pk_parse.proofs.initializers.more_values.Given as goal

abbrev pub invariant-loop-another : goal.invariant-loop-another
invariant-loop-another l =
    ReadsValues l.parser.end l.outside l.fn.another l.tokens (expression_trees l.list.items) l.another l.rest × GoesOn l.parser.end l.another l.rest × (length l.rest ≤ length l.tokens)

abbrev pub decreases-loop-another : goal.decreases-loop-another
decreases-loop-another l = length l.rest
