use Rattle.std.proofs.Common.{arith}
use Rattle.pk_state.proofs.Rows.{alike_in, alike_row}
use Rattle.pk_state.proofs.values.same_row_values.Goals as goal

pub returns : goal.returns
returns c =
    (λ e. alike_in c.args.a.now c.args.b.now c.row.result.now c.row-2.result.now c.args.x c.requires.size c.row.ensures.items c.row-2.ensures.items (λ r p q. c.same_row.ensures.0 e r p (omega (arith, q, c.len.ensures.value))), λ h. c.same_row.ensures.1 (λ r p q. alike_row c.args.a.now c.args.b.now c.row.result.now c.row-2.result.now c.args.x c.requires.size c.row.ensures.items c.row-2.ensures.items h r p (omega (arith, q, c.len.ensures.value))))
