use Rattle.std.proofs.Common.{◌<◌, length, subst, sym, arith}
use Rattle.pk_value.specs.Known.{Known}
use Rattle.pk_octagons.specs.Values.{HasType}
use Rattle.pk_octagons.proofs.Lists.{range_type}
use Rattle.pk_octagons.proofs.turns.lowered_count.Goals as goal

pub is_lowered-requires-clause-inside : goal.is_lowered-requires-clause-inside
is_lowered-requires-clause-inside c =
    let k = c.loop-k.k in
    let vs = c.args.values.now in
    let x = c.variable-x.result in
    let here : k < length c.args.pack.now = omega (arith, c.loop-k-test.true, c.len-k-end.ensures) in
    let place : x < length vs = omega (arith, c.variable-x.ensures, c.requires.pack.there k here) in
    subst (λ (v : Known). HasType v.range) (sym c.value.view_is) (range_type vs x c.get-value.result c.requires.values place c.get-value.ensures)
