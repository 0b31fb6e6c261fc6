use Rattle.std.proofs.Common.{◌∙◌, sym, arith}
use Rattle.pk_blocks.proofs.Merging.{merged_below, merged_beyond}
use Rattle.pk_blocks.proofs.group.merge_block.Goals as goal

pub returns-then-limit-at-clause-value : goal.returns-then-limit-at-clause-value
returns-then-limit-at-clause-value g c =
    c.in_ok-share.ensures
    ∙ sym (merged_beyond c.args.limit (g.M.Merge.merged c.args.by.now) c.args.at c.args.a.now c.args.b.now (omega (arith, c.if-limit-at.true)) (c.requires.left ∙ sym c.requires.right))

pub returns-clause-value : goal.returns-clause-value
returns-clause-value g c =
    c.in_ok-merge.ensures.value
    ∙ sym (merged_below c.args.limit (g.M.Merge.merged c.args.by.now) c.args.at c.args.a.now c.args.b.now (omega (arith, c.if-limit-at.false, c.requires.left, c.requires.place, c.requires.whole)))
