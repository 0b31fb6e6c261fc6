use Rattle.std.proofs.Common.{ap, ◌∙◌, sym, ◌<◌, length, subst, arith}
use Rattle.pk_value.specs.Known.{Known}
use Rattle.pk_octagons.specs.Values.{known_at}
use Rattle.pk_octagons.specs.Reduced.{by_range}
use Rattle.pk_octagons.proofs.Lists.{get_known}
use Rattle.pk_octagons.proofs.Resting.{none_lower_next}
use Rattle.pk_octagons.specs.Values.{HasType}
use Rattle.pk_octagons.proofs.Lists.{range_type}
use Rattle.pk_octagons.proofs.lowering.are_lowered.Goals as goal

pub loop-k-preserved : goal.loop-k-preserved
loop-k-preserved c =
    let m = c.args.m.now in
    let vs = c.args.values.now in
    none_lower_next c.args.pack.now vs c.loop-k.k m c.loop-k.invariant
    (ap (λ x. by_range m c.loop-k.k (known_at vs x).range) (sym c.variable-x.ensures) ∙ ap (λ (v : Known). by_range m c.loop-k.k v.range) (get_known vs c.variable-x.result c.get-value.result c.get-value.ensures ∙ sym c.value.view_is)
    ∙ c.is_lowered.ensures c.if-not-is_lowered.false)

pub is_lowered-requires-clause-inside : goal.is_lowered-requires-clause-inside
is_lowered-requires-clause-inside c =
    let k = c.loop-k.k in
    let vs = c.args.values.now in
    let x = c.variable-x.result in
    let here : k < length c.args.pack.now = omega (arith, c.loop-k-test.true, c.len-k-end.ensures) in
    let place : x < length vs = omega (arith, c.variable-x.ensures, c.requires.pack.there k here) in
    subst (λ (v : Known). HasType v.range) (sym c.value.view_is) (range_type vs x c.get-value.result c.requires.values place c.get-value.ensures)
