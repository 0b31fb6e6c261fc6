use Rattle.std.proofs.Common.{◌≡◌, ◌++◌, drop}
use Rattle.pk_listing.specs.Listing.{findings_text}
use Rattle.pk_listing.proofs.findings.write_findings.Given as goal

-- what is written so far stands before what is left
abbrev pub invariant-loop-k : goal.invariant-loop-k
invariant-loop-k l =
    l.bytes.items ++ findings_text l.sources l.text (drop l.k l.operations) ≡
    l.initial.bytes.items ++ findings_text l.sources l.text l.operations
