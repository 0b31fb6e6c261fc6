use Rattle.std.proofs.Common.{◌≡◌, true, take}
use Rattle.pk_blocks.specs.Rows.{below}
use Rattle.pk_blocks.proofs.Flat.{AreMerged}
use Rattle.pk_blocks.proofs.group.merge_blocks.Given as goal

-- so many blocks are merged, and while nothing has changed they are those that were there
abbrev pub invariant-loop-k : goal.invariant-loop-k
invariant-loop-k g l = AreMerged 16 (below l.limit (g.M.Merge.merged l.by)) l.from l.out.items l.a l.b l.k × (l.same ≡ true → l.out.items ≡ take l.k l.a)
