use Rattle.pk_blocks.specs.Rows.{below, group_size}
use Rattle.pk_blocks.proofs.Flat.{AreMerged}
use Rattle.pk_blocks.proofs.blocks.merge_groups.Given as goal

-- so many groups are merged
abbrev pub invariant-loop-k : goal.invariant-loop-k
invariant-loop-k g l = AreMerged (group_size l.size) (below l.limit (g.M.Merge.merged l.by)) 0 l.out.items l.a l.b l.k
