use Rattle.std.proofs.Common.{arith}
use Rattle.pk_lower.proofs.FunctionLemmas.{returns_read, returns_past}
use Rattle.pk_lower.proofs.contexts.returns.Goals as goal

pub returns-then-function-len : goal.returns-then-function-len
returns-then-function-len c = returns_read c.args.unit.now c.args.function c.index.result.now (omega arith) c.index.ensures

pub returns-else-function-len : goal.returns-else-function-len
returns-else-function-len c = returns_past c.args.unit.now c.args.function (omega arith)
