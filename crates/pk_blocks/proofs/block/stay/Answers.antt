use Rattle.std.proofs.Common.{◌≡◌, ◌∙◌, ap, sym, arith, ◌+◌, suc, ◌++◌, ◌∷◌, [], take}
use Rattle.std.proofs.lemmas.List.{take_more}
use Rattle.pk_blocks.proofs.Merging.{merged_more}
use Rattle.pk_blocks.proofs.block.stay.Goals as goal

pub loop-k-preserved : goal.loop-k-preserved
loop-k-preserved g c =
    let k = c.loop-k.k in
    let a = c.args.a.now in
    let f = g.M.Merge.merged c.args.by.now in
    let n : k + 1 ≡ suc k = omega arith in
    let own : f (c.args.from + k) c.index-a-k.result c.index-b-k.result ≡ c.index-a-k.result = c.keeps.ensures c.if-not-keeps.false in
    rw n
    (sym (merged_more f c.args.from a c.args.b.now k c.index-a-k.result c.index-b-k.result c.loop-k-test.true c.requires.same c.index-a-k.is c.index-b-k.is)
    ∙ ap (λ xs. xs ++ f (c.args.from + k) c.index-a-k.result c.index-b-k.result ∷ []) c.loop-k.invariant
    ∙ ap (λ x. take k a ++ x ∷ []) (own ∙ c.index-a-k.is) ∙ sym (take_more a k c.index-a-k.result c.loop-k-test.true) ∙ ap (λ m. take m a) n)
