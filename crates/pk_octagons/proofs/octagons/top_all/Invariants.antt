use Rattle.std.proofs.Common.{◌≡◌, take}
use Rattle.pk_octagons.specs.Octagons.{top_octagons}
use Rattle.pk_octagons.proofs.octagons.top_all.Given as goal

-- so many are made
abbrev pub invariant-loop-p : goal.invariant-loop-p
invariant-loop-p l = l.out.items ≡ top_octagons (take l.p l.packs)
