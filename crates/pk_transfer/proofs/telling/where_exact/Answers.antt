use Rattle.pk_transfer.proofs.Operands.{told_in, told_right}
use Rattle.pk_transfer.proofs.telling.where_exact.Goals as goal

pub is_exact-requires-clause-left : goal.is_exact-requires-clause-left
is_exact-requires-clause-left c = told_in _ _ c.args.t c.in-Some.left c.a.view_is c.requires.left c.a.invariant c.in-Some.is

pub is_exact-requires-clause-right : goal.is_exact-requires-clause-right
is_exact-requires-clause-right c = told_right _ _ c.args.op c.args.t c.in-Some-known.right c.b.view_is c.requires.right c.b.invariant c.in-Some-known.is
