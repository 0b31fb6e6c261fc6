use Rattle.std.proofs.Common.{sym, subst, List}
use Rattle.pk_lex.specs.declared.token.Token.{Token}
use Rattle.pk_grammar.specs.Outcomes.{IsEnded}
use Rattle.pk_front.proofs.MarkLemmas.{marked_is_ended}
use Rattle.pk_type_tests.proofs.typing.typed.Goals as goal

pub parse-requires : goal.parse-requires
parse-requires c =
    let read = c.in_ok-tokens.ensures in
    subst (λ (ts : List Token). IsEnded ts) (sym c.deref.ensures.value) (marked_is_ended c.args.text.now _ read.words _ read.marked (c.tokens_are_ended.ensures c.args.text.now read.words read.lexed))
