use Rattle.pk_edge_laws.proofs.Expressions.{expressions_stay}
use Rattle.pk_edge_laws.proofs.laws.expressions_stay.Goals as goal

pub returns : goal.returns
returns g c = expressions_stay {V = g.row.V.Denot}
