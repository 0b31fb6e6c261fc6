use Rattle.pk_visits_laws.proofs.Turned.{turns_are_followed}
use Rattle.pk_visits_laws.proofs.laws.turns_are_followed.Goals as goal

pub returns : goal.returns
returns c = turns_are_followed c.paths_are_all.ensures
