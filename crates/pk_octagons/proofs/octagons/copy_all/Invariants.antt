use Rattle.std.proofs.Common.{◌≡◌, take}
use Rattle.pk_octagons.proofs.octagons.copy_all.Given as goal

-- so many are shared
abbrev pub invariant-loop-octagon : goal.invariant-loop-octagon
invariant-loop-octagon l = l.out.items ≡ take l.octagon-index l.all
