use Rattle.std.proofs.Common.{ℕ, ◌∙◌, ap, arith, slice_index_or}
use Rattle.pk_typed.specs.Views.{unit_tree}
use Rattle.pk_runner_state.proofs.ProgramLemmas.{function_read, function_past}
use Rattle.pk_runner_state.proofs.programs.function.Goals as goal
use Rattle.pk_typed.specs.Defaults.{no_function}

pub returns-then-number-len : goal.returns-then-number-len
returns-then-number-len c = function_read c.args.program.now.unit.now c.function_number-number.result c.index.result.now (omega arith) c.index.ensures
    ∙ ap (λ (k : ℕ). slice_index_or (unit_tree c.args.program.now.unit.now).functions k no_function) c.function_number-number.ensures

pub returns-else-number-len : goal.returns-else-number-len
returns-else-number-len c = function_past c.args.program.now.unit.now c.function_number-number.result (omega arith)
    ∙ ap (λ (k : ℕ). slice_index_or (unit_tree c.args.program.now.unit.now).functions k no_function) c.function_number-number.ensures
