use Rattle.std.proofs.Common.{sym, ◌∙◌}
use Rattle.pk_lex.proofs.NumberLemmas.{number_from_digit, number_from_point}
use Rattle.pk_lex.proofs.numbers.number_count.Goals as goal

pub returns-then-digit : goal.returns-then-digit
returns-then-digit c =
    number_from_digit c.args.text.now c.in-Some.a c.in-Some.rest.now c.rest_count.result c.in-Some.ensures (sym c.digit.ensures ∙ c.if-digit.true) c.rest_count.ensures

pub returns-in-Some-split : goal.returns-in-Some-split
returns-in-Some-split c =
    number_from_point c.args.text.now c.in-Some.a c.in-Some.rest.now c.in-Some-split.b c.in-Some-split.more.now c.rest_count-in-Some-split.result
    c.in-Some.ensures c.in-Some-split.ensures (sym c.digit.ensures ∙ c.if-digit.false) c.requires c.rest_count-in-Some-split.ensures
