use Rattle.std.proofs.Common.{refl, sym, ap, subst, ◌∙◌, ◌<◌, None, get_or, below_more, arith}
use Rattle.std.proofs.lemmas.List.{get_or_read, ext_get_or}
use Rattle.pk_octmat.proofs.matrix.same_cells.Goals as goal

pub returns : goal.returns
returns c = (λ e. ext_get_or None c.args.cells.now c.args.other.now c.requires (λ k p. c.loop-k.invariant k (omega (arith, c.loop-k-test.false))), λ e. refl)

pub loop-k-preserved : goal.loop-k-preserved
loop-k-preserved c =
    let left = get_or_read c.args.cells.now c.loop-k.k c.index-cells-k.result c.loop-k-test.true c.index-cells-k.is None in
    let right = get_or_read c.args.other.now c.loop-k.k c.index-other-k.result (subst (λ n. c.loop-k.k < n) c.requires c.loop-k-test.true) c.index-other-k.is None in
    below_more _ _ c.loop-k.invariant (sym left ∙ c.equals.ensures.0 c.if-not-equals.false ∙ right)

pub returns-then-not-equals : goal.returns-then-not-equals
returns-then-not-equals c =
    let left = get_or_read c.args.cells.now c.loop-k.k c.index-cells-k.result c.loop-k-test.true c.index-cells-k.is None in
    let right = get_or_read c.args.other.now c.loop-k.k c.index-other-k.result (subst (λ n. c.loop-k.k < n) c.requires c.loop-k-test.true) c.index-other-k.is None in
    (λ e. absurd (cc), λ e. sym c.if-not-equals.true ∙ c.equals.ensures.1 (left ∙ ap (λ xs. get_or xs c.loop-k.k None) e ∙ sym right))
