use Rattle.pk_unit_texts.proofs.Texts.{units_have_names}
use Rattle.pk_unit_texts.proofs.laws.units_have_names.Goals as goal

pub returns : goal.returns
returns c = units_have_names c.names_stand_in_texts.ensures
