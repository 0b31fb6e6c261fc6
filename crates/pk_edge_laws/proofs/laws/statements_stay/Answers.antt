use Rattle.pk_edge_laws.proofs.Statements.{statements_stay}
use Rattle.pk_edge_laws.proofs.laws.statements_stay.Goals as goal

pub returns : goal.returns
returns g c = statements_stay {V = g.row.V.Denot}
