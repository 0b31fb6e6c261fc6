use Rattle.std.proofs.Common.{◌≡◌, ◌++◌, drop}
use Rattle.pk_listing.specs.Listing.{ways_text}
use Rattle.pk_listing.proofs.findings.write_ways.Given as goal

-- what is written so far stands before what is left
abbrev pub invariant-loop-k : goal.invariant-loop-k
invariant-loop-k l =
    l.bytes.items ++ ways_text l.text l.is_one_of_many (drop l.k l.ways) ≡
    l.initial.bytes.items ++ ways_text l.text l.is_one_of_many l.ways
