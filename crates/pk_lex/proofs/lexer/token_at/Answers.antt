use Rattle.std.proofs.Common.{sym, ◌∙◌}
use Rattle.pk_lex.proofs.StepLemmas.{first_directive, first_word, no_token_without_word, no_token_without_kind}
use Rattle.pk_lex.proofs.lexer.token_at.Goals as goal

pub returns-then-at_directive : goal.returns-then-at_directive
returns-then-at_directive c =
    first_directive c.args.front.now c.args.text.now c.line_count.result c.line_count.ensures (sym c.at_directive.ensures ∙ c.if-at_directive.true) c.requires

pub returns-in_default : goal.returns-in_default
returns-in_default c =
    (no_token_without_word c.args.front.now c.args.text.now (sym c.at_directive.ensures ∙ c.if-at_directive.false) c.in_default.ensures, c.wrong.ensures)

pub returns-in-Some-kind : goal.returns-in-Some-kind
returns-in-Some-kind c =
    first_word c.args.front.now c.args.text.now c.split_at.result.0.now c.in-Some.count c.in-Some-kind.kind (sym c.at_block.ensures ∙ c.if-at_block.false) c.requires
    c.in-Some.ensures c.split_at.ensures.front (sym c.kind.ensures ∙ c.in-Some-kind.is)

pub returns-in-None : goal.returns-in-None
returns-in-None c = (
  no_token_without_kind c.args.front.now c.args.text.now c.split_at.result.0.now c.in-Some.count (sym c.at_directive.ensures ∙ c.if-at_directive.false)
      c.in-Some.ensures c.split_at.ensures.front (sym c.kind.ensures ∙ c.in-None.is),
  c.wrong-in-None.ensures,
)
