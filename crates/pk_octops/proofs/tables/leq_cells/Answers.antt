use Rattle.std.proofs.Common.{refl, sym, ◌∙◌, None, below_more}
use Rattle.std.proofs.lemmas.List.{get_or_read}
use Rattle.pk_octops.proofs.Pointwise.{at_most_from, kept_from, kept_below, not_at_most, other_in}
use Rattle.pk_octops.proofs.tables.leq_cells.Goals as goal

pub returns-then-not-is_at_most : goal.returns-then-not-is_at_most
returns-then-not-is_at_most c =
    let left = get_or_read c.args.cells.now c.loop-k.k c.index-cells-k.result c.loop-k-test.true c.index-cells-k.is None in
    let right = get_or_read c.args.other.now c.loop-k.k c.index-other-k.result (other_in c.args.cells.now c.args.other.now c.args.d c.loop-k.k c.requires.size c.requires.other c.loop-k-test.true) c.index-other-k.is None in (
      λ e. absurd (cc),
      λ h. absurd (not_at_most c.index-cells-k.result c.index-other-k.result (sym c.is_at_most.ensures ∙ c.if-not-is_at_most.true) (rw left (rw right (kept_from c.args.d c.args.cells.now c.args.other.now c.loop-k.k c.requires.pairs c.requires.size c.loop-k-test.true h)))),
    )

pub loop-k-preserved : goal.loop-k-preserved
loop-k-preserved c =
    let left = get_or_read c.args.cells.now c.loop-k.k c.index-cells-k.result c.loop-k-test.true c.index-cells-k.is None in
    let right = get_or_read c.args.other.now c.loop-k.k c.index-other-k.result (other_in c.args.cells.now c.args.other.now c.args.d c.loop-k.k c.requires.size c.requires.other c.loop-k-test.true) c.index-other-k.is None in
    below_more _ _ c.loop-k.invariant (rw (← left) (rw (← right) (at_most_from c.index-cells-k.result c.index-other-k.result (sym c.is_at_most.ensures ∙ c.if-not-is_at_most.false))))

pub returns : goal.returns
returns c =
    (λ e. kept_below c.args.d c.args.cells.now c.args.other.now c.loop-k.k c.requires.pairs c.requires.size c.loop-k-test.false c.loop-k.invariant, λ h. refl)
