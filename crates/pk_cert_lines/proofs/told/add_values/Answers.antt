use Rattle.std.proofs.Common.{arith}
use Rattle.pk_cert_lines.proofs.Telling.{parts_as, values_on, values_all}
use Rattle.pk_cert_lines.proofs.told.add_values.Goals as goal

pub loop-p-preserved : goal.loop-p-preserved
loop-p-preserved c = λ parts h.
    parts_as _ _ _ _ _ c.in_ok-add_value.ensures.text c.in_ok-add_value.ensures.sizes
    (values_on c.args.order.now c.args.state.now.facts c.loop-p.p c.slot.result parts c.loop-p.text.items c.loop-p.sizes.items c.requires.some (omega (arith, c.loop-p-test.true, c.len-p-end.ensures)) c.slot.ensures.value (c.loop-p.invariant parts h))

pub returns : goal.returns
returns c = λ parts h.
    values_all c.args.order.now c.args.state.now.facts c.loop-p.p parts c.loop-p.text.items c.loop-p.sizes.items (omega (arith, c.loop-p-test.false, c.loop-p.auto.p-end, c.len-p-end.ensures)) (c.loop-p.invariant parts h)
