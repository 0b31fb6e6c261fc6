use Rattle.pk_lower_laws.proofs.Parts.Expressions.{expressions_make_as_much}
use Rattle.pk_lower_laws.proofs.laws.expressions_make_as_much.Goals as goal

pub returns : goal.returns
returns g c = expressions_make_as_much g.row.V.Denot g.row.W.Denot
