use Rattle.std.proofs.Common.{◌≡◌, ◌++◌, drop}
use Rattle.pk_findings.specs.Operations.{cases_in}
use Rattle.pk_findings.proofs.operations.cases.Given as goal

-- the cases so far stand before those of the rest
abbrev pub invariant-loop-k : goal.invariant-loop-k
invariant-loop-k l = l.cases.items ++ cases_in (drop l.k l.rows) ≡ cases_in l.rows
