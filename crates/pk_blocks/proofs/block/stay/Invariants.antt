use Rattle.std.proofs.Common.{◌≡◌, take}
use Rattle.pk_blocks.specs.Rows.{merged_from}
use Rattle.pk_blocks.proofs.block.stay.Given as goal

-- so many items stay as they are
abbrev pub invariant-loop-k : goal.invariant-loop-k
invariant-loop-k g l = merged_from (g.M.Merge.merged l.by) l.from (take l.k l.a) (take l.k l.b) ≡ take l.k l.a
