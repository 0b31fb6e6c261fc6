use Rattle.pk_places_laws.proofs.Graphs.{names_are_the_units}
use Rattle.pk_places_laws.proofs.laws.names_are_the_units.Goals as goal

pub returns : goal.returns
returns c = names_are_the_units
