use Rattle.pk_grammar.proofs.LawLemmas.{one_list}
use Rattle.pk_grammar.proofs.laws.units_are_determined.Goals as goal

pub returns : goal.returns
returns c = one_list
