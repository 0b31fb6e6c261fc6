use Rattle.std.proofs.Common.{refl}
use Rattle.pk_parse.proofs.externals.parameter_name.Goals as goal

pub returns-in-Some-clause-name : goal.returns-in-Some-clause-name
returns-in-Some-clause-name c = (c.in-Some.token, c.in-Some.ensures, c.identifier.ensures)

pub returns-in-None-clause-name : goal.returns-in-None-clause-name
returns-in-None-clause-name c = (refl, c.in-None.ensures)
