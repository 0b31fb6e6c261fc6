use Rattle.std.proofs.Common.{◌≡◌, drop}
use Rattle.std.specs.Prelude.{fold}
use Rattle.pk_findings.specs.Words.{joined, verdict_of}
use Rattle.pk_findings.proofs.words.verdict_of.Given as goal

-- the verdict so far, over what is left
abbrev pub invariant-loop-k : goal.invariant-loop-k
invariant-loop-k l =
    fold (λ v w. joined v w.verdict) l.verdict (drop l.k l.operation.ways) ≡ verdict_of l.operation
