use Rattle.std.proofs.Common.{◌<◌, sym, subst, ◌∙◌, arith, length, length-set}
use Rattle.pk_octagons.specs.Values.{IsValue, type_at}
use Rattle.pk_octagons.proofs.Lists.{get_known}
use Rattle.pk_octagons.proofs.Bounding.{value_at, bounded_value, write_values, bounded_more, bounded_stop}
use Rattle.pk_octagons.proofs.Resting.{none_bound_here, none_bound_next}
use Rattle.pk_octagons.proofs.values.bound_by_one.Goals as goal

pub returns-in-None-clause-value : goal.returns-in-None-clause-value
returns-in-None-clause-value c =
    let k = c.loop-k.k in
    let l = c.args.pack.now in
    let x = c.variable-x.result in
    let vs = c.loop-k.values in
    let there : k < length l = omega (arith, c.loop-k-test.true, c.len-k-end.ensures) in
    bounded_stop l c.args.m.now k (length l) c.args.values.now vs x c.get-old.result c.loop-k.invariant.2 c.variable-x.ensures (get_known vs x c.get-old.result c.get-old.ensures) (sym c.in-None.is ∙ c.bound.ensures) there

pub put_loose-requires-clause-old : goal.put_loose-requires-clause-old
put_loose-requires-clause-old c = get_known c.loop-k.values c.variable-x.result c.get-old.result c.get-old.ensures

pub loop-k-preserved : goal.loop-k-preserved
loop-k-preserved c =
    let k = c.loop-k.k in
    let l = c.args.pack.now in
    let x = c.variable-x.result in
    let vs = c.loop-k.values in
    let there : k < length l = omega (arith, c.loop-k-test.true, c.len-k-end.ensures) in
    let place : x < length vs = omega (arith, c.variable-x.ensures, c.requires.pack.there k there, c.loop-k.invariant.0) in
    let old = get_known vs x c.get-old.result c.get-old.ensures in
    rw c.in_ok-put_loose-in-Some.ensures.value (
      length-set vs x c.in-Some.new ∙ c.loop-k.invariant.0,
      λ types h.
          let held = c.loop-k.invariant.1 types h in
          let was : IsValue (type_at types x) c.get-old.result = subst (IsValue (type_at types x)) old (value_at types vs x held place) in
          write_values types vs x c.in-Some.new place (bounded_value (type_at types x) c.args.m.now k c.get-old.result c.in-Some.new was (sym c.bound.ensures ∙ c.in-Some.is)) held,
      bounded_more l c.args.m.now k c.args.values.now vs x c.get-old.result c.in-Some.new c.loop-k.invariant.2 c.variable-x.ensures old (sym c.in-Some.is ∙ c.bound.ensures),
      rw c.in_ok-put_loose-in-Some.ensures.value at c.in_ok-put_loose-in-Some.ensures.marked,
      λ none.
          let was = c.in_ok-put_loose-in-Some.ensures.still none in
          let before = c.loop-k.invariant.4 was.0 in
          let here = none_bound_here l c.args.m.now k c.args.values.now vs x c.get-old.result c.in-Some.new before.1 c.variable-x.ensures old was.1 (sym c.bound.ensures ∙ c.in-Some.is) in
          (before.0, here.0, none_bound_next l c.args.m.now k c.args.values.now before.2 here.1),
    )
