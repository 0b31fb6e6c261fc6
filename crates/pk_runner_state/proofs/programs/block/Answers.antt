use Rattle.std.proofs.Common.{◌∙◌, ap, arith}
use Rattle.pk_typed.specs.Views.{unit_tree}
use Rattle.pk_calls.specs.Calls.{body_of}
use Rattle.pk_calls.proofs.CallLemmas.{body_read, body_past}
use Rattle.pk_runner_state.proofs.programs.block.Goals as goal

pub returns-then-number-len : goal.returns-then-number-len
returns-then-number-len c = body_read c.args.program.now.unit.now c.function_number-number.result c.index.result.now c.as_ref.result (omega arith) c.index.ensures c.as_ref.ensures.value
    ∙ ap (body_of (unit_tree c.args.program.now.unit.now)) c.function_number-number.ensures

pub returns-else-number-len : goal.returns-else-number-len
returns-else-number-len c = body_past c.args.program.now.unit.now c.function_number-number.result (omega arith) ∙ ap (body_of (unit_tree c.args.program.now.unit.now)) c.function_number-number.ensures
