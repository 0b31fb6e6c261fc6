use Rattle.std.proofs.Common.{◌≤◌, length}
use Rattle.pk_parse.proofs.TypeNameLemmas.{ReadsNames}
use Rattle.pk_parse.proofs.externals.more_names.Given as goal

abbrev pub invariant-loop-last : goal.invariant-loop-last
invariant-loop-last l = ReadsNames l.parser.end l.tokens l.list.items l.rest × (length l.rest ≤ length l.tokens)

abbrev pub decreases-loop-last : goal.decreases-loop-last
decreases-loop-last l = length l.rest
