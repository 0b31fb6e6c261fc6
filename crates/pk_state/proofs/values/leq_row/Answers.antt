use Rattle.std.proofs.Common.{ap, refl, sym, ◌∙◌, arith, below_more}
use Rattle.std.proofs.lemmas.Option.{slice_get_read}
use Rattle.pk_value.specs.Known.{is_within}
use Rattle.pk_octagons.specs.Values.{known_at}
use Rattle.pk_octagons.proofs.Lists.{get_known}
use Rattle.pk_state.proofs.values.leq_row.Goals as goal

pub returns : goal.returns
returns c = (λ e r p q. c.loop-r.invariant r (omega (arith, p, q, c.loop-r-test.false, c.min-r-end.ensures)), λ e. refl)

pub loop-r-preserved : goal.loop-r-preserved
loop-r-preserved c =
    let r = c.loop-r.r in
    let a = c.args.a.now in
    let b = c.args.b.now in
    let x = c.index-a-r.result in
    let y = c.index-b-r.result in
    let left = get_known a r x (slice_get_read a 16 r x (sym c.requires.left) (omega (arith, c.loop-r-test.true, c.min-r-end.ensures)) c.index-a-r.is) in
    let right = get_known b r y (slice_get_read b 16 r y (sym c.requires.right) (omega (arith, c.loop-r-test.true, c.min-r-end.ensures)) c.index-b-r.is) in
    below_more _ _ c.loop-r.invariant (ap (λ u. is_within u (known_at b r)) left ∙ ap (λ u. is_within x u) right ∙ sym c.leq.ensures ∙ c.if-not-leq.false)
