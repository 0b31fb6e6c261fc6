use Rattle.std.proofs.Common.{◌∙◌, arith}
use Rattle.pk_runner_state.proofs.ProgramLemmas.{object_read, object_past}
use Rattle.pk_runner_state.proofs.programs.length_in_file.Goals as goal

pub returns-then-number-len : goal.returns-then-number-len
returns-then-number-len c = c.length_of_object.ensures ∙ object_read c.args.program.now.unit.now c.args.number c.index.result.now (omega arith) c.index.ensures

pub returns-else-number-len : goal.returns-else-number-len
returns-else-number-len c = object_past c.args.program.now.unit.now c.args.number (omega arith)
