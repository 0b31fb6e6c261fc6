use Rattle.std.proofs.Common.{◌≡◌, ◌+◌, suc, ap, sym, ◌∙◌, arith, ◌<◌, length, subst}
use Rattle.pk_value.specs.Known.{Known}
use Rattle.pk_octagons.specs.Packs.{chosen_at}
use Rattle.pk_octagons.specs.Values.{known_at}
use Rattle.pk_octagons.specs.Reduced.{by_range}
use Rattle.pk_octagons.proofs.Lists.{get_known}
use Rattle.pk_octagons.specs.Values.{HasType}
use Rattle.pk_octagons.proofs.Lists.{range_type}
use Rattle.pk_octagons.proofs.lowering.lower_all.Goals as goal

pub loop-k-preserved : goal.loop-k-preserved
loop-k-preserved c =
    let k = c.loop-k.k in
    let vs = c.args.values.now in
    let x = c.variable-x.result in
    let n : k + 1 ≡ suc k = omega arith in
    let range = ap (λ (v : Known). v.range) (c.value.view_is ∙ sym (get_known vs x c.get-value.result c.get-value.ensures)) in
    rw n (
      c.lower_marked-known.ensures.value ∙ ap (λ r. by_range c.loop-k.m k r) range ∙ ap (λ y. by_range c.loop-k.m k (known_at vs y).range) c.variable-x.ensures
          ∙ ap (λ o. by_range o k (known_at vs (chosen_at c.args.pack.now k)).range) c.loop-k.invariant.0,
      c.lower_marked-known.ensures.vars ∙ c.loop-k.invariant.1,
      λ is. c.lower_marked-known.ensures.marked (c.loop-k.invariant.2 is),
    )

pub lower_marked-known-requires-clause-inside : goal.lower_marked-known-requires-clause-inside
lower_marked-known-requires-clause-inside c =
    let k = c.loop-k.k in
    let vs = c.args.values.now in
    let x = c.variable-x.result in
    let here : k < length c.args.pack.now = omega (arith, c.loop-k-test.true, c.len-k-end.ensures) in
    let place : x < length vs = omega (arith, c.variable-x.ensures, c.requires.pack.there k here) in
    subst (λ (v : Known). HasType v.range) (sym c.value.view_is) (range_type vs x c.get-value.result c.requires.values place c.get-value.ensures)
