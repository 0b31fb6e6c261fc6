use Rattle.std.proofs.Common.{◌≤◌, length}
use Rattle.pk_ast.specs.Views.{enumerator_trees}
use Rattle.pk_parse.specs.Parts.{GoesOn}
use Rattle.pk_parse.proofs.EnumerationLemmas.{ReadsEnumerators}
use Rattle.pk_parse.proofs.enumerations.more_enumerators.Given as goal

abbrev pub invariant-loop-another : goal.invariant-loop-another
invariant-loop-another l =
    ReadsEnumerators l.parser.end l.outside l.fn.another l.tokens (enumerator_trees l.list.items) l.another l.rest × GoesOn l.parser.end l.another l.rest × (length l.rest ≤ length l.tokens)

abbrev pub decreases-loop-another : goal.decreases-loop-another
decreases-loop-another l = length l.rest
