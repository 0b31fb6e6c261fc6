use Rattle.pk_computed_laws.proofs.Evaluated.{computed_is_evaluated}
use Rattle.pk_computed_laws.proofs.laws.computed_is_evaluated.Goals as goal

pub returns : goal.returns
returns c = computed_is_evaluated c.paths_are_all.ensures c.points_share_accesses.ensures
