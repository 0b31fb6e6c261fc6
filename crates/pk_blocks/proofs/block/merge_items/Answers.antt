use Rattle.std.proofs.Common.{◌≡◌, ◌∙◌, ap, arith, ◌+◌, suc, ◌++◌, ◌∷◌, [], length, take}
use Rattle.std.proofs.lemmas.List.{length-take}
use Rattle.pk_blocks.specs.Rows.{merged_from}
use Rattle.pk_blocks.proofs.Merging.{merged_more, merged_length}
use Rattle.pk_blocks.proofs.block.merge_items.Goals as goal

pub loop-k-preserved : goal.loop-k-preserved
loop-k-preserved g c =
    let k = c.loop-k.k in
    let n : k + 1 ≡ suc k = omega arith in
    rw n
    (c.in_ok-push.ensures.items ∙ ap (λ xs. xs ++ c.merge.result ∷ []) c.loop-k.invariant
    ∙ ap (λ x. merged_from (g.M.Merge.merged c.args.by.now) c.args.from (take k c.args.a.now) (take k c.args.b.now) ++ x ∷ []) c.merge.ensures
    ∙ merged_more (g.M.Merge.merged c.args.by.now) c.args.from c.args.a.now c.args.b.now k c.index-a-k.result c.index-b-k.result c.loop-k-test.true c.requires.same c.index-a-k.is c.index-b-k.is)

pub returns-clause-size : goal.returns-clause-size
returns-clause-size g c =
    let k = c.loop-k.k in
    let left = length-take k c.args.a.now in
    let right = length-take k c.args.b.now in
    let same : length (take k c.args.a.now) ≡ length (take k c.args.b.now) = omega (arith, left, right, c.requires.same) in
    omega (arith, ap length c.loop-k.invariant, merged_length (g.M.Merge.merged c.args.by.now) c.args.from (take k c.args.a.now) (take k c.args.b.now) same, left, c.loop-k-test.false)
