use Rattle.std.proofs.Common.{◌≡◌}
use Rattle.pk_findings.specs.Grouping.{gathered, gathered_of}
use Rattle.pk_findings.proofs.grouping.gather.Given as goal

-- what is gathered of the cases so far
abbrev pub invariant-loop-case : goal.invariant-loop-case
invariant-loop-case l =
    gathered l.whole.items l.latest ≡ gathered_of l.yielded
