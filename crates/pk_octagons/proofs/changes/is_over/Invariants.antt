use Rattle.std.proofs.Common.{◌≡◌, drop}
use Rattle.pk_octagons.specs.Packs.{is_over}
use Rattle.pk_octagons.proofs.changes.is_over.Given as goal

-- the others decide
abbrev pub invariant-loop-i : goal.invariant-loop-i
invariant-loop-i l = is_over (drop l.i l.over) l.pack ≡ is_over l.over l.pack
