use Rattle.std.proofs.Common.{◌≡◌, ◌++◌, drop}
use Rattle.pk_listing.specs.Listing.{listing_text}
use Rattle.pk_listing.proofs.findings.listing.Given as goal

-- what is written so far stands before what is left
abbrev pub invariant-loop-k : goal.invariant-loop-k
invariant-loop-k l =
    l.bytes.items ++ listing_text l.sources l.with_invariants (drop l.k l.shown) ≡ listing_text l.sources l.with_invariants l.shown
