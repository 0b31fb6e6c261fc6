use Rattle.std.proofs.Common.{◌≡◌, ◌++◌, drop}
use Rattle.pk_listing.specs.Listing.{refusals_text}
use Rattle.pk_listing.proofs.findings.refusals.Given as goal

-- what is written so far stands before what is left
abbrev pub invariant-loop-k : goal.invariant-loop-k
invariant-loop-k l =
    l.bytes.items ++ refusals_text l.sources (drop l.k l.refused) ≡ refusals_text l.sources l.refused
