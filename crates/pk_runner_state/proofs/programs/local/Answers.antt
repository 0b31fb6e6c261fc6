use Rattle.std.proofs.Common.{arith}
use Rattle.pk_runner_state.proofs.ProgramLemmas.{local_read, local_past}
use Rattle.pk_runner_state.proofs.programs.local.Goals as goal

pub returns-then-number-len : goal.returns-then-number-len
returns-then-number-len c = local_read _ c.in-Some.body.now c.args.number c.index.result.now c.in-Some.ensures (omega arith) c.index.ensures

pub returns-else-number-len : goal.returns-else-number-len
returns-else-number-len c = local_past _ c.in-Some.body.now c.args.number c.in-Some.ensures (omega arith)
