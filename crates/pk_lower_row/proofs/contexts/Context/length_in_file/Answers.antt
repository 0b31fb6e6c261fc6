use Rattle.std.proofs.Common.{◌∙◌, arith}
use Rattle.pk_lower_row.specs.Views.{context_in}
use Rattle.pk_lower_row.proofs.ContextLemmas.{object_length, object_past}
use Rattle.pk_lower_row.proofs.contexts.Context.length_in_file.Goals as goal

pub returns-then-object-len : goal.returns-then-object-len
unfolding context_in
returns-then-object-len c = c.length_of_object.ensures ∙ object_length c.args.self.now.unit.now c.args.object c.index.result.now (omega arith) c.index.ensures

pub returns-else-object-len : goal.returns-else-object-len
unfolding context_in
returns-else-object-len c = object_past c.args.self.now.unit.now c.args.object (omega arith)
