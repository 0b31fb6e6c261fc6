use Rattle.pk_read_back_texts.proofs.Texts.{texts_are_tellable}
use Rattle.pk_read_back_texts.proofs.laws.texts_are_tellable.Goals as goal

pub returns : goal.returns
returns c =
    texts_are_tellable c.names_stand_in_texts.ensures c.places_are_bounded.ensures c.texts_are_well_typed.ensures c.paths_are_all.ensures
