use Rattle.std.proofs.Common.{◌≡◌, ◌++◌, drop}
use Rattle.pk_listing.specs.Invariants.{facts_text}
use Rattle.pk_listing.proofs.invariants.write_facts.Given as goal

-- what is written so far stands before what is left
abbrev pub invariant-loop-k : goal.invariant-loop-k
invariant-loop-k l =
    l.bytes.items ++ facts_text l.text (drop l.k l.rows) ≡ l.initial.bytes.items ++ facts_text l.text l.rows
