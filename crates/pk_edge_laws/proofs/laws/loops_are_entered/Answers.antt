use Rattle.pk_edge_laws.proofs.Statements.{loops_are_entered}
use Rattle.pk_edge_laws.proofs.laws.loops_are_entered.Goals as goal

pub returns : goal.returns
returns g c = loops_are_entered {V = g.row.V.Denot}
