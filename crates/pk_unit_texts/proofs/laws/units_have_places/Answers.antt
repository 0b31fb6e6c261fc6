use Rattle.pk_unit_texts.proofs.Texts.{units_have_places}
use Rattle.pk_unit_texts.proofs.laws.units_have_places.Goals as goal

pub returns : goal.returns
returns c = units_have_places
