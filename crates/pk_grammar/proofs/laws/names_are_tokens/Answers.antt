use Rattle.pk_grammar.proofs.NameLemmas as names
use Rattle.pk_grammar.proofs.laws.names_are_tokens.Goals as goal

pub returns : goal.returns
returns c = names.names_are_tokens
