use Rattle.pk_places_laws.proofs.Callers.{callers_come_first}
use Rattle.pk_places_laws.proofs.laws.callers_come_first.Goals as goal

pub returns : goal.returns
returns c = callers_come_first
