use Rattle.std.proofs.Common.{arith}
use Rattle.pk_cert_lines.proofs.Telling.{values_lie}
use Rattle.pk_cert_lines.proofs.told.value_in.Goals as goal

pub index-requires : goal.index-requires
index-requires c =
    let lie = values_lie c.args.order.now c.args.frame.now c.args.told.now c.args.x c.requires.told c.is_stated.ensures.facts c.requires.place in
    omega (arith, lie.0, c.args.told.now.values.ok.0)
