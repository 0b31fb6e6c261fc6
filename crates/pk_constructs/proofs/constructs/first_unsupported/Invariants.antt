use Rattle.std.proofs.Common.{◌+◌, ◌≤◌, length}
use Rattle.pk_constructs.proofs.ScanLemmas.{Scanned}
use Rattle.pk_constructs.proofs.constructs.first_unsupported.Given as goal

abbrev pub invariant-loop-token : goal.invariant-loop-token
invariant-loop-token l = Scanned l.tokens l.rest l.last l.braces × (l.braces + length l.rest ≤ length l.tokens)

abbrev pub decreases-loop-token : goal.decreases-loop-token
decreases-loop-token l = length l.rest
