use Rattle.std.specs.Prelude.{◌≡◌, [], replicate}
use Rattle.pk_octagons.proofs.packs.no_places.Given as goal

-- so many have none
abbrev pub invariant-loop : goal.invariant-loop
invariant-loop l = l.table.items ≡ replicate l.counter []
