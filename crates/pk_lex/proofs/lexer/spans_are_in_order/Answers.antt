use Rattle.pk_lex.proofs.SpanLemmas.{spans}
use Rattle.pk_lex.proofs.lexer.spans_are_in_order.Goals as goal

pub returns : goal.returns
returns c = spans
