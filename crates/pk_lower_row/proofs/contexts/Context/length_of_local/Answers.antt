use Rattle.pk_lower_row.specs.Views.{context_in}
use Rattle.pk_lower_row.proofs.ContextLemmas.{local_length}
use Rattle.pk_lower_row.proofs.contexts.Context.length_of_local.Goals as goal

pub returns-then-object-self : goal.returns-then-object-self
unfolding context_in
returns-then-object-self c = local_length _ _ _ c.if-object-self.true
