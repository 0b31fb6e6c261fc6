use Rattle.std.proofs.Common.{arith, ◌∙◌}
use Rattle.pk_wpo.proofs.Steps.{led_row_begins, led_row_more, led_row_ends, led_ends, row_below}
use Rattle.pk_wpo.proofs.constraints.led.Goals as goal

pub loop-b-init : goal.loop-b-init
loop-b-init c = record {
  long = c.loop-a.invariant.long;
  marks = led_row_begins c.args.layout.now c.args.constraints.now c.loop-a.a c.successors-b-items.result.now c.loop-a.led.items c.loop-a.invariant.marks;
}

pub is_from_home-inside-requires-clause-to : goal.is_from_home-inside-requires-clause-to
is_from_home-inside-requires-clause-to c =
    row_below c.args.layout.now c.args.constraints.now c.loop-a.a c.loop-b.b-index c.successors-b-items.result.now c.laid.ensures c.requires.edges c.successors-b-items.ensures.successors c.loop-b-test.true

pub mark-requires : goal.mark-requires
mark-requires c =
    let below = row_below c.args.layout.now c.args.constraints.now c.loop-a.a c.loop-b.b-index c.successors-b-items.result.now c.laid.ensures c.requires.edges c.successors-b-items.ensures.successors c.loop-b-test.true in
    omega (arith, below, c.loop-b.invariant.long)

pub loop-b-preserved : goal.loop-b-preserved
loop-b-preserved c = record {
  long = c.mark.ensures.long ∙ c.loop-b.invariant.long;
  marks = led_row_more c.args.layout.now c.args.constraints.now c.loop-a.a c.successors-b-items.result.now c.loop-b.b-index c.loop-b.led.items c.mark.new.marks.items c.is_from_home-inside.result
      c.successors-b-items.ensures.successors c.loop-b-test.true c.is_from_home-inside.ensures c.mark.ensures.kept c.mark.ensures.only c.mark.ensures.marked c.loop-b.invariant.marks;
}

pub loop-a-preserved : goal.loop-a-preserved
loop-a-preserved c = record {
  long = c.loop-b.invariant.long;
  marks = led_row_ends c.args.layout.now c.args.constraints.now c.loop-a.a c.successors-b-items.result.now c.loop-b.b-index c.loop-b.led.items c.successors-b-items.ensures.successors (omega arith) c.loop-b.invariant.marks;
}

pub returns-clause-led : goal.returns-clause-led
returns-clause-led c = λ b below.
    led_ends c.args.layout.now c.args.constraints.now c.loop-a.a b c.loop-a.led.items c.laid.ensures c.requires.edges (omega (arith, c.end-end.ensures.end)) c.loop-a.invariant.marks
