use Rattle.pk_lower_laws.proofs.Parts.Statements.{statements_make_as_much}
use Rattle.pk_lower_laws.proofs.laws.statements_make_as_much.Goals as goal

pub returns : goal.returns
returns g c = statements_make_as_much g.row.V.Denot g.row.W.Denot
