use Rattle.std.proofs.Common.{◌<◌, ap, sym, ◌∙◌, arith, length, set}
use Rattle.pk_value.specs.Known.{widened}
use Rattle.pk_octagons.specs.Values.{type_at, known_at}
use Rattle.pk_octagons.proofs.Lists.{get_known}
use Rattle.pk_state.proofs.Stays.{merged_known, merged_size, merged_step}
use Rattle.pk_state.proofs.values.widen_values.Goals as goal

pub put_loose-requires-clause-place : goal.put_loose-requires-clause-place
put_loose-requires-clause-place c =
    let size = ap length c.loop-x.invariant.0 ∙ merged_size (λ y. widened (type_at c.args.frame.now.types y) c.args.thresholds.now) 0 c.args.held.now c.args.next.now c.loop-x.x (c.requires.held.size ∙ sym c.requires.next.size) in
    omega (arith, size, c.loop-x-test.true, c.len-x-end.ensures, c.requires.held.size)

pub put_loose-requires-clause-old : goal.put_loose-requires-clause-old
put_loose-requires-clause-old c =
    let x = c.loop-x.x in
    let place : x < length c.args.held.now = omega (arith, c.loop-x-test.true, c.len-x-end.ensures, c.requires.held.size) in
    ap (λ o. known_at o x) c.loop-x.invariant.0 ∙ merged_known (λ y. widened (type_at c.args.frame.now.types y) c.args.thresholds.now) 0 c.args.held.now c.args.next.now x place (c.requires.held.size ∙ sym c.requires.next.size)
    ∙ get_known c.args.held.now x c.get-old.result c.get-old.ensures

pub loop-x-preserved : goal.loop-x-preserved
loop-x-preserved c =
    let x = c.loop-x.x in
    let place : x < length c.args.held.now = omega (arith, c.loop-x-test.true, c.len-x-end.ensures, c.requires.held.size) in (
      merged_step (λ y. widened (type_at c.args.frame.now.types y) c.args.thresholds.now) c.args.held.now c.args.next.now c.loop-x.out c.put_loose.new.values x c.get-old.result c.get.result c.loop-x.invariant.0 place (c.requires.held.size ∙ sym c.requires.next.size)
          (get_known c.args.held.now x c.get-old.result c.get-old.ensures) (get_known c.args.next.now x c.get.result c.get.ensures)
          (c.in_ok-put_loose.ensures.value ∙ ap (λ v. set c.loop-x.out x v) (c.widen-new.ensures.value ∙ ap (λ t. widened t c.args.thresholds.now c.get-old.result c.get.result) c.int_type.ensures)),
      c.in_ok-put_loose.ensures.marked,
    )
