use Rattle.std.proofs.Common.{◌≡◌, ◌≤◌, ◌+◌, ◌∙◌, ap, arith, length, suc, subst, sym, ◌<◌}
use Rattle.pk_octmat.specs.Octagon.{entry}
use Rattle.pk_octclose.specs.Closing.{KeepsPoints}
use Rattle.pk_value.specs.Known.{Known}
use Rattle.pk_octagons.specs.Values.{known_at}
use Rattle.pk_octagons.specs.Reduced.{by_range, by_ranges}
use Rattle.pk_octagons.proofs.Points.{both_points, ranges_closing, ranges_next, ranges_none, turned_is}
use Rattle.pk_octagons.proofs.Lists.{get_known}
use Rattle.pk_octagons.specs.Values.{HasType}
use Rattle.pk_octagons.proofs.Lists.{range_type}
use Rattle.pk_octagons.proofs.turns.close_in_turn.Goals as goal

pub returns-in-Empty-clause-value : goal.returns-in-Empty-clause-value
returns-in-Empty-clause-value c =
    let l = c.args.pack.now in
    let vs = c.args.values.now in
    let m = c.args.m.now in
    let k = c.loop-k.k in
    let range = ap (λ (v : Known). v.range) (c.value.view_is ∙ sym (get_known vs c.variable-x.result c.get-value.result c.get-value.ensures)) ∙ ap (λ y. (known_at vs y).range) c.variable-x.ensures in
    let next = ranges_next l vs k m c.loop-k.m c.value.inside.interval c.is_octagon.ensures c.is_octagon-in-loop-k.ensures (omega (arith, c.loop-k-test.true, c.len-k-end.ensures, c.requires.vars)) c.loop-k.invariant.2 c.loop-k.invariant.1 range in
    let some : suc k ≤ length l = omega (arith, c.loop-k-test.true, c.len-k-end.ensures) in
    ranges_none l vs (suc k) (length l) m c.is_octagon.ensures some (omega (arith, c.requires.vars)) c.requires.few c.requires.small (λ x p. c.in-Empty.ensures.value x (next.to x p))

pub loop-k-preserved : goal.loop-k-preserved
loop-k-preserved c =
    let l = c.args.pack.now in
    let vs = c.args.values.now in
    let m = c.args.m.now in
    let k = c.loop-k.k in
    let n : k + 1 ≡ suc k = omega arith in
    let range = ap (λ (v : Known). v.range) (c.value.view_is ∙ sym (get_known vs c.variable-x.result c.get-value.result c.get-value.ensures)) ∙ ap (λ y. (known_at vs y).range) c.variable-x.ensures in
    let next = ranges_next l vs k m c.loop-k.m c.value.inside.interval c.is_octagon.ensures c.is_octagon-in-loop-k.ensures (omega (arith, c.loop-k-test.true, c.len-k-end.ensures, c.requires.vars)) c.loop-k.invariant.2 c.loop-k.invariant.1 range in
    let turn = c.in-Known.ensures.value in
    rw n (
      turn.0,
      both_points (entry (by_ranges l vs (suc k) m)) (entry (by_range c.loop-k.m k c.value.inside.interval)) (entry c.lower_ahead.new.m) next turn.1,
      c.lower_ahead.ensures.vars ∙ c.loop-k.invariant.2,
    )

pub returns-clause-value : goal.returns-clause-value
returns-clause-value c =
    let l = c.args.pack.now in
    let vs = c.args.values.now in
    let m = c.args.m.now in
    let q = c.loop-k.m in
    let all : c.loop-k.k ≡ length l = omega (arith, c.loop-k-test.false, c.loop-k.auto.k-end, c.len-k-end.ensures) in
    turned_is c.close_small.result c.close_small.new.m q (by_ranges l vs (length l) m)
    (λ little. ranges_closing l vs (length l) m q c.is_octagon.ensures c.is_octagon-2.ensures (omega (arith, c.requires.vars)) c.requires.few c.loop-k.invariant.2 c.requires.small little (subst (λ n. KeepsPoints (entry (by_ranges l vs n m)) (entry q)) all c.loop-k.invariant.1))
    c.close_small.ensures.value c.close_small.ensures.small

pub lower_ahead-requires-clause-inside : goal.lower_ahead-requires-clause-inside
lower_ahead-requires-clause-inside c =
    let k = c.loop-k.k in
    let vs = c.args.values.now in
    let x = c.variable-x.result in
    let here : k < length c.args.pack.now = omega (arith, c.loop-k-test.true, c.len-k-end.ensures) in
    let place : x < length vs = omega (arith, c.variable-x.ensures, c.requires.pack.there k here) in
    subst (λ (v : Known). HasType v.range) (sym c.value.view_is) (range_type vs x c.get-value.result c.requires.values place c.get-value.ensures)
