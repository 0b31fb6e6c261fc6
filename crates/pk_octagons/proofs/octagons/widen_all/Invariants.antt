use Rattle.std.proofs.Common.{◌≡◌, take}
use Rattle.pk_blocks.specs.Rows.{merged_from}
use Rattle.pk_octops.specs.Tables.{widening_of}
use Rattle.pk_octagons.proofs.octagons.widen_all.Given as goal

-- so many are made
abbrev pub invariant-loop-p : goal.invariant-loop-p
invariant-loop-p l = l.out.items ≡ merged_from (λ q. widening_of) 0 (take l.p l.a) (take l.p l.b)
