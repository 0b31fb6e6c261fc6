use Rattle.pk_places_laws.proofs.Graphs.{places_are_the_units}
use Rattle.pk_places_laws.proofs.laws.places_are_the_units.Goals as goal

pub returns : goal.returns
returns c = places_are_the_units
