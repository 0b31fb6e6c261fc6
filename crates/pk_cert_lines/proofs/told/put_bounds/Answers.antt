use Rattle.std.proofs.Common.{refl, ◌∙◌, arith}
use Rattle.pk_cert_lines.proofs.Telling.{parts_lie, bounds_put}
use Rattle.pk_cert_lines.proofs.told.put_bounds.Goals as goal

pub put-requires-clause-place : goal.put-requires-clause-place
put-requires-clause-place c = let lie = parts_lie c.args.order.now c.args.frame.now c.args.told.now c.requires.told in omega (arith, lie.0, c.len.ensures)

pub put-requires-clause-whole : goal.put-requires-clause-whole
put-requires-clause-whole c = (parts_lie c.args.order.now c.args.frame.now c.args.told.now c.requires.told).1

pub returns-clause-told : goal.returns-clause-told
returns-clause-told c =
    bounds_put c.args.order.now c.args.frame.now c.args.told.now _ _ c.deref.result.now c.requires.told c.len.ensures (c.deref.ensures.value ∙ c.in_ok-part.ensures) c.requires.layout c.requires.some c.requires.same refl c.in_ok-put.ensures.text
    c.in_ok-put.ensures.sizes
