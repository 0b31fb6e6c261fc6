use Rattle.pk_unit_laws.proofs.Names.{names_are_the_texts}
use Rattle.pk_unit_laws.proofs.laws.names_are_the_texts.Goals as goal

pub returns : goal.returns
returns c = names_are_the_texts
