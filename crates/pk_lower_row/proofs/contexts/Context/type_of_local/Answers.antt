use Rattle.pk_lower_row.specs.Views.{context_in}
use Rattle.pk_lower_row.proofs.ContextLemmas.{local_type}
use Rattle.pk_lower_row.proofs.contexts.Context.type_of_local.Goals as goal

pub returns-then-object-self : goal.returns-then-object-self
unfolding context_in
returns-then-object-self c = local_type _ _ _ c.if-object-self.true
