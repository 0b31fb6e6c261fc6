use Rattle.pk_visits_laws.proofs.Ways.Shared.{points_share}
use Rattle.pk_visits_laws.proofs.laws.points_share_accesses.Goals as goal

pub returns : goal.returns
returns c = points_share c.points_have_one_way.ensures
