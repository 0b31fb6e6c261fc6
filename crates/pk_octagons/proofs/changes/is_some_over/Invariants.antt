use Rattle.std.proofs.Common.{◌≡◌, drop}
use Rattle.pk_octagons.specs.Packs.{is_some_over}
use Rattle.pk_octagons.proofs.changes.is_some_over.Given as goal

-- the others decide
abbrev pub invariant-loop-p : goal.invariant-loop-p
invariant-loop-p l = is_some_over l.over (drop l.p l.packs) ≡ is_some_over l.over l.packs
