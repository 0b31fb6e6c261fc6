use Rattle.std.proofs.Common.{◌∙◌, arith}
use Rattle.pk_typed.specs.Views.{file_object_tree}
use Rattle.pk_runner_state.proofs.ProgramLemmas.{name_read, name_past}
use Rattle.pk_runner_state.proofs.programs.file_name.Goals as goal

pub returns-then-number-len : goal.returns-then-number-len
unfolding file_object_tree
returns-then-number-len c = c.as_str.ensures ∙ name_read c.args.program.now.unit.now c.args.number c.index.result.now (omega arith) c.index.ensures

pub returns-else-number-len : goal.returns-else-number-len
returns-else-number-len c = name_past c.args.program.now.unit.now c.args.number (omega arith)
