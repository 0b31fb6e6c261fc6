use Rattle.std.proofs.Common.{◌≡◌, drop}
use Rattle.pk_listing.specs.Sources.{lines_named}
use Rattle.pk_listing.proofs.sources.lines_named.Given as goal

-- the file is one of those that are left
abbrev pub invariant-loop-k : goal.invariant-loop-k
invariant-loop-k l = lines_named (drop l.k l.sources) l.name ≡ lines_named l.sources l.name
