use Rattle.std.proofs.Common.{◌≤◌, length}
use Rattle.pk_parse.proofs.EnumerationLemmas.{ReadsQualifiers}
use Rattle.pk_parse.proofs.enumerations.qualifiers.Given as goal

abbrev pub invariant-loop-token : goal.invariant-loop-token
invariant-loop-token l = ReadsQualifiers l.parser.end l.tokens l.list.items l.rest × (length l.rest ≤ length l.tokens)

abbrev pub decreases-loop-token : goal.decreases-loop-token
decreases-loop-token l = length l.rest
