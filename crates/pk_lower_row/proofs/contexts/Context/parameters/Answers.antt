use Rattle.std.proofs.Common.{◌∙◌, arith}
use Rattle.pk_lower_row.specs.Views.{context_in}
use Rattle.pk_lower_row.proofs.ContextLemmas.{parameters_read, parameters_past}
use Rattle.pk_lower_row.proofs.contexts.Context.parameters.Goals as goal

pub returns-then-function-len : goal.returns-then-function-len
unfolding context_in
returns-then-function-len c = c.as_slice.ensures.value ∙ parameters_read c.args.self.now.unit.now c.args.function c.index.result.now (omega arith) c.index.ensures

pub returns-else-function-len : goal.returns-else-function-len
unfolding context_in
returns-else-function-len c = parameters_past c.args.self.now.unit.now c.args.function (omega arith)
