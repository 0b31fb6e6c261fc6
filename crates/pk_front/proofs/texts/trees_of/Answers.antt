use Rattle.std.proofs.Common.{sym, subst, List}
use Rattle.pk_lex.specs.declared.token.Token.{Token}
use Rattle.pk_grammar.specs.Outcomes.{IsEnded}
use Rattle.pk_front.specs.Texts.{IsLeft}
use Rattle.pk_front.proofs.MarkLemmas.{marked_is_ended}
use Rattle.pk_front.proofs.TextLemmas.{handed_on}
use Rattle.pk_front.proofs.texts.trees_of.Goals as goal

pub returns-in_err-tokens-clause-left : goal.returns-in_err-tokens-clause-left
returns-in_err-tokens-clause-left c = λ entry. handed_on (IsLeft c.args.text.now entry) c.from_residual.result c.in_err-tokens.field-0.0 c.from_residual.ensures.1 (c.in_err-tokens.ensures.left entry)

pub parse-requires : goal.parse-requires
parse-requires c =
    let read = c.in_ok-tokens.ensures.read in
    subst (λ (ts : List Token). IsEnded ts) (sym c.deref.ensures.value) (marked_is_ended c.args.text.now _ read.words _ read.marked (c.tokens_are_ended.ensures c.args.text.now read.words read.lexed))
