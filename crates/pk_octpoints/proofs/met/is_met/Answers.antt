use Rattle.std.specs.Prelude.{ℤ, Some}
use Rattle.std.proofs.Common.{◌∙◌, ap, arith}
use Rattle.std.proofs.lemmas.Int.{ints}
use Rattle.pk_octmat.specs.Bounds.{is_at_most}
use Rattle.pk_octmat.specs.Octagon.{entry}
use Rattle.pk_octpoints.proofs.Numbers.{met_is}
use Rattle.pk_octpoints.proofs.met.is_met.Goals as goal

pub returns : goal.returns
returns c =
    let to = c.side.ensures.value in
    let from = c.side-2.ensures.value in
    let low = c.side.ensures.low in
    let high = c.side.ensures.high in
    let least = c.side-2.ensures.low in
    let most = c.side-2.ensures.high in
    met_is c.is_at_most.result c.exactly-difference.result (entry c.args.m.now c.args.i c.args.j) _ (c.is_at_most.ensures ∙ ap (λ o. is_at_most c.exactly-difference.result o) c.bound.ensures.value)
    (c.exactly-difference.ensures ∙ ap (λ (z : ℤ). Some z) (omega (arith, ints, to, from, low, high, least, most)))
