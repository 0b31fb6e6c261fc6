use Rattle.pk_text_laws.proofs.Names.Names.{names_stand}
use Rattle.pk_text_laws.proofs.laws.names_stand_in_texts.Goals as goal

pub returns : goal.returns
returns c = names_stand c.names_are_tokens.ensures
