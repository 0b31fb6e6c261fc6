use Rattle.std.proofs.Common.{◌≡◌, map}
use Rattle.pk_findings.specs.Lengths.{with_length}
use Rattle.pk_findings.proofs.lengths.with_each.Given as goal

-- those so far
abbrev pub invariant-loop-operation : goal.invariant-loop-operation
invariant-loop-operation l = l.told.items ≡ map (with_length l.lengths) l.yielded
