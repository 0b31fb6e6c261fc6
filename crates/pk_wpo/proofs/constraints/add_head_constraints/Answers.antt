use Rattle.std.proofs.Common.{◌≡◌, ◌<◌, Bool, false, IsTrue, ◌↔◌, get_or, sym, subst, arith, ◌∙◌}
use Rattle.std.proofs.lemmas.List.{get_or_default}
use Rattle.pk_wpo.specs.Layouts.{end_number}
use Rattle.pk_wpo.specs.Edges.{IsLed}
use Rattle.pk_wpo.proofs.Steps.{heads_step, heads_end, head_for_below}
use Rattle.pk_wpo.proofs.constraints.add_head_constraints.Goals as goal

pub add_from-requires-clause-from : goal.add_from-requires-clause-from
add_from-requires-clause-from c = λ h is.
    let below = head_for_below c.args.layout.now c.loop-e.e h c.index.result.now c.head_for-head.result c.laid.ensures c.head_for-head.ensures.none c.head_for-head.ensures.home is in
    omega (arith, below, c.requires.as_many, c.loop-e.invariant.long)

pub loop-e-preserved : goal.loop-e-preserved
loop-e-preserved c =
    let l = c.args.layout.now in
    let below : c.loop-e.e < end_number l = omega (arith, c.loop-e-test.true, c.end-e-end.ensures.end) in
    let marks = c.in_ok-led.led.items in
    let read : get_or marks c.loop-e.e false ≡ c.index.result.now =
    sym (c.index.ensures ∙ get_or_default marks c.loop-e.e c.index.result.now false (omega (arith, below, c.in_ok-led.ensures.as_many))) in
    let tells : IsTrue c.index.result.now ↔ IsLed l c.args.constraints.now c.loop-e.e =
    subst (λ (b : Bool). IsTrue b ↔ IsLed l c.args.constraints.now c.loop-e.e) read (c.in_ok-led.ensures.led c.loop-e.e below) in
    record {
      long = c.in_ok-add_from.ensures.as_many ∙ c.loop-e.invariant.long;
      heads = heads_step l c.args.constraints.now c.loop-e.constraints c.add_from.new.constraints c.loop-e.e c.index.result.now c.head_for-head.result c.laid.ensures c.requires.edges tells
          c.head_for-head.ensures.none c.head_for-head.ensures.home c.in_ok-add_from.ensures.edges c.loop-e.invariant.heads;
    }

pub returns-clause-edges : goal.returns-clause-edges
returns-clause-edges c =
    heads_end c.args.layout.now c.args.constraints.now c.loop-e.constraints c.loop-e.e c.laid.ensures (omega (arith, c.end-e-end.ensures.end)) c.loop-e.invariant.heads
