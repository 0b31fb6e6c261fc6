use Rattle.std.proofs.Common.{◌<◌, drop, sym, subst, ◌∙◌, arith, length, slice_index_or, refl}
use Rattle.std.proofs.Math.ListN.{drop_of_length-le}
use Rattle.pk_octagons.specs.Values.{type_at, IsValue}
use Rattle.pk_octagons.proofs.Bounding.{value_at, write_values}
use Rattle.pk_octagons.proofs.Lists.{get_known}
use Rattle.pk_state.proofs.Stays.{red_value}
use Rattle.pk_state.proofs.Loose.{halfway_step, halfway_past, halfway_stop, halfway_end}
use Rattle.pk_state.proofs.values.reduce_values.Goals as goal
use Rattle.pk_state.proofs.values.reduce_values.Goals.{then-x-len+in-Some+in_ok-put-in-Some, else-x-len}

pub returns-in-None-clause-value : goal.returns-in-None-clause-value
returns-in-None-clause-value c =
    let x = slice_index_or c.args.loose.now c.loop-k.k 0 in
    let vs = c.loop-k.values in
    let place : x < length vs = omega (arith, c.if-x-len.true, c.len.ensures, c.loop-k.invariant.0.size) in
    halfway_stop c.args.values.now vs (drop c.loop-k.k c.args.loose.now) x c.get-old.result c.loop-k.invariant.1 place (get_known vs x c.get-old.result c.get-old.ensures) (sym c.in-None.is ∙ c.reduced.ensures.value)

pub put-requires-clause-old : goal.put-requires-clause-old
put-requires-clause-old c = get_known c.loop-k.values (slice_index_or c.args.loose.now c.loop-k.k 0) c.get-old.result c.get-old.ensures

pub loop-k-preserved : goal.loop-k-preserved
loop-k-preserved c = elim c.if-x-len.branch [
  | then-x-len+in-Some+in_ok-put-in-Some w ↦
      (let x = slice_index_or c.args.loose.now c.loop-k.k 0 in
      let l = c.args.frame.now.types in
      let vs = c.loop-k.values in
      let olds = c.args.values.now in
      let place : x < length vs = omega (arith, w.if-x-len.true, c.len.ensures, c.loop-k.invariant.0.size) in
      let old = get_known vs x w.get-old.result w.get-old.ensures in
      let was : IsValue (type_at l x) w.get-old.result = subst (IsValue (type_at l x)) old (value_at l vs x c.loop-k.invariant.0 place) in
      let reds = sym w.reduced.ensures.value ∙ w.in-Some.is in
      let is = red_value (type_at l x) w.get-old.result w.in-Some.new was reds in
      rw w.values-is
      (rw w.in_ok-put-in-Some.ensures (
        write_values l vs x w.in-Some.new place is c.loop-k.invariant.0,
        halfway_step olds vs c.args.loose.now c.loop-k.k x 0 w.get-old.result w.in-Some.new c.loop-k.invariant.1 (omega (arith, c.loop-k-test.true)) refl place old was.class.from is.class.from reds,
      )))
  | else-x-len w ↦
      rw w.values-is
      (c.loop-k.invariant.0, halfway_past c.args.values.now c.loop-k.values c.args.loose.now c.loop-k.k (slice_index_or c.args.loose.now c.loop-k.k 0) 0 c.loop-k.invariant.1 (omega (arith, c.loop-k-test.true)) refl (omega (arith, w.if-x-len.false, c.len.ensures, c.loop-k.invariant.0.size)))
]

pub returns-clause-value : goal.returns-clause-value
returns-clause-value c = halfway_end c.args.frame.now.types c.args.values.now c.loop-k.values (drop c.loop-k.k c.args.loose.now) (drop_of_length-le c.args.loose.now c.loop-k-test.false) c.loop-k.invariant.0 c.loop-k.invariant.1
