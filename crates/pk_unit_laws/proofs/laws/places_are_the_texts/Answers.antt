use Rattle.pk_unit_laws.proofs.Places.{places_are_the_texts}
use Rattle.pk_unit_laws.proofs.laws.places_are_the_texts.Goals as goal

pub returns : goal.returns
returns c = places_are_the_texts
