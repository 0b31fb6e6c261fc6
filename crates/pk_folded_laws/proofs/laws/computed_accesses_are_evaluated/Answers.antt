use Rattle.pk_folded_laws.proofs.Folded.{computed_accesses_are_evaluated}
use Rattle.pk_folded_laws.proofs.laws.computed_accesses_are_evaluated.Goals as goal

pub returns : goal.returns
returns c = computed_accesses_are_evaluated c.computed_is_evaluated.ensures
