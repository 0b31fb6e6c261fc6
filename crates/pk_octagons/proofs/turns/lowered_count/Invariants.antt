use Rattle.std.proofs.Common.{◌≤◌}
use Rattle.pk_octagons.proofs.turns.lowered_count.Given as goal

-- at most one for each
abbrev pub invariant-loop-k : goal.invariant-loop-k
invariant-loop-k l = l.count ≤ l.k
