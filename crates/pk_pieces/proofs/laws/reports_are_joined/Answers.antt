use Rattle.pk_pieces.proofs.Joins.{reports_joined}
use Rattle.pk_pieces.proofs.laws.reports_are_joined.Goals as goal

pub returns : goal.returns
returns c = reports_joined
