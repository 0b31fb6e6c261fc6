use Rattle.std.proofs.Common.{arith}
use Rattle.pk_calls.proofs.CallLemmas.{locals_some, locals_none}
use Rattle.pk_calls.proofs.functions.locals.Goals as goal

pub returns-in-Some : goal.returns-in-Some
returns-in-Some c = omega (arith, locals_some _ _ c.in-Some.body.now c.in-Some.ensures)

pub returns-in-None : goal.returns-in-None
returns-in-None c = locals_none _ _ c.in-None.ensures
