use Rattle.pk_unit_texts.proofs.Standing.{places_are_bounded}
use Rattle.pk_unit_texts.proofs.laws.places_are_bounded.Goals as goal

pub returns : goal.returns
returns c = places_are_bounded
