use Rattle.pk_visits_laws.proofs.Ways.Graphs.{points_have_one_way}
use Rattle.pk_visits_laws.proofs.laws.points_have_one_way.Goals as goal

pub returns : goal.returns
returns c = points_have_one_way c.paths_are_all.ensures
