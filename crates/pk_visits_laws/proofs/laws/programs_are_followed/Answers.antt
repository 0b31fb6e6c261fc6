use Rattle.pk_visits_laws.proofs.Followed.Standing.{programs_are_followed}
use Rattle.pk_visits_laws.proofs.laws.programs_are_followed.Goals as goal

pub returns : goal.returns
returns c = programs_are_followed c.paths_are_all.ensures
