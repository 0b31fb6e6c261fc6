use Rattle.pk_lex.proofs.ReadLemmas.{one_list, one_kind, one_place, not_both}
use Rattle.pk_lex.proofs.lexer.tokens_are_determined.Goals as goal

pub returns : goal.returns
returns c = record { one_list = one_list; one_kind = one_kind; one_place = one_place; not_both = not_both }
