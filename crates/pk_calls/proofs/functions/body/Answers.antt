use Rattle.std.proofs.Common.{arith}
use Rattle.pk_calls.proofs.CallLemmas.{body_read, body_past}
use Rattle.pk_calls.proofs.functions.body.Goals as goal

pub returns-then-function-len : goal.returns-then-function-len
returns-then-function-len c = body_read c.args.unit.now c.args.function c.index.result.now c.as_ref.result (omega arith) c.index.ensures c.as_ref.ensures.value

pub returns-else-function-len : goal.returns-else-function-len
returns-else-function-len c = body_past c.args.unit.now c.args.function (omega arith)
