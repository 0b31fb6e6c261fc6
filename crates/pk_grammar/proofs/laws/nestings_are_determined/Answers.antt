use Rattle.pk_grammar.proofs.LawLemmas.{nested_alike}
use Rattle.pk_grammar.proofs.laws.nestings_are_determined.Goals as goal

pub returns : goal.returns
returns c = nested_alike
