use Rattle.pk_visits_laws.proofs.Followed.Standing.{programs_are_never_stuck}
use Rattle.pk_visits_laws.proofs.laws.programs_are_never_stuck.Goals as goal

pub returns : goal.returns
returns c = programs_are_never_stuck c.paths_are_all.ensures
