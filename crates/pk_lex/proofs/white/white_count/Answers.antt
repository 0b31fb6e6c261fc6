use Rattle.std.proofs.Common.{sym, ap, ◌∙◌}
use Rattle.pk_lex.specs.WhiteSpace.{has_close}
use Rattle.pk_lex.proofs.StepLemmas.{unclosed, first_byte, first_block, first_skipped}
use Rattle.pk_lex.proofs.white.white_count.Goals as goal

pub returns-then-white : goal.returns-then-white
returns-then-white c = first_byte c.args.front.now c.args.text.now c.in-Some.b c.in-Some.field-0-1.now c.in-Some.ensures (sym c.white.ensures ∙ c.if-white.true)

pub returns-in_default-close_count : goal.returns-in_default-close_count
returns-in_default-close_count c =
    unclosed c.args.front.now c.args.text.now c.in-Some.b c.in-Some.field-0-1.now c.in-Some.ensures (sym c.white.ensures ∙ c.if-white.false)
    (sym c.at_block.ensures ∙ c.if-at_block.true) (ap has_close (sym c.split_at.ensures.back) ∙ c.in_default-close_count.ensures)

pub returns-then-at_block : goal.returns-then-at_block
returns-then-at_block c =
    first_block c.args.front.now c.args.text.now c.split_at.result.1.now c.in-Some-close_count.n (sym c.at_block.ensures ∙ c.if-at_block.true)
    c.split_at.ensures.back c.in-Some-close_count.ensures

pub returns-then-at_skipped : goal.returns-then-at_skipped
returns-then-at_skipped c =
    first_skipped c.args.front.now c.args.text.now c.line_count-then-at_skipped.result c.line_count-then-at_skipped.ensures (sym c.at_skipped.ensures ∙ c.if-at_skipped.true)
