use Rattle.std.proofs.Common.{◌∙◌, arith}
use Rattle.pk_cert_lines.proofs.Telling.{parts_lie, value_put, values_lie}
use Rattle.pk_cert_lines.proofs.told.put_value.Goals as goal

pub put-requires-clause-place : goal.put-requires-clause-place
put-requires-clause-place c = let lie = parts_lie c.args.order.now c.args.frame.now c.args.told.now c.requires.told in omega (arith, lie.0, c.place-p.ensures.there)

pub put-requires-clause-whole : goal.put-requires-clause-whole
put-requires-clause-whole c = (parts_lie c.args.order.now c.args.frame.now c.args.told.now c.requires.told).1

pub returns-clause-told : goal.returns-clause-told
returns-clause-told c =
    value_put c.args.order.now c.args.frame.now c.args.told.now _ c.args.x c.place-p.result c.args.value c.deref.result.now c.is_order.ensures c.requires.told c.is_stated.ensures.facts c.requires.many c.place-p.ensures.there
    c.place-p.ensures.value (c.deref.ensures.value ∙ c.in_ok-part.ensures) (c.in_ok-state.ensures.layout ∙ c.requires.told.told.layout) c.in_ok-state.ensures.facts c.put_known.ensures c.in_ok-put.ensures.text c.in_ok-put.ensures.sizes

pub put_known-requires : goal.put_known-requires
put_known-requires c = (values_lie c.args.order.now c.args.frame.now c.args.told.now c.args.x c.requires.told c.is_stated.ensures.facts (omega (arith, c.requires.place, c.requires.many))).0
