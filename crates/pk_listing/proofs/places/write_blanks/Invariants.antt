use Rattle.std.proofs.Common.{◌≡◌, ◌++◌, drop, map}
use Rattle.pk_listing.specs.Places.{blank_for}
use Rattle.pk_listing.proofs.places.write_blanks.Given as goal

-- what is written so far stands before what is left
abbrev pub invariant-loop-k : goal.invariant-loop-k
invariant-loop-k l =
    l.bytes.items ++ map blank_for (drop l.k l.front) ≡ l.initial.bytes.items ++ map blank_for l.front
