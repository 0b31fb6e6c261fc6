use Rattle.std.proofs.Common.{sym, ◌∙◌}
use Rattle.pk_lex.proofs.WordLemmas.{none_at_end, longest_number, word_is_name, word_is_character, word_is_string, word_is_punctuator}
use Rattle.pk_lex.proofs.words.word_count.Goals as goal

pub returns-in_default : goal.returns-in_default
returns-in_default c = none_at_end c.args.text.now c.in_default.ensures

pub returns-then-letter : goal.returns-then-letter
returns-then-letter c =
    word_is_name c.args.text.now c.in-Some.b c.in-Some.rest.now c.in-Some.ensures (sym c.letter.ensures ∙ c.if-letter.true) c.part_count.result c.part_count.ensures

pub returns-then-at_number : goal.returns-then-at_number
returns-then-at_number c = longest_number c.args.text.now c.number_count.result (sym c.at_number.ensures ∙ c.if-at_number.true) c.number_count.ensures

pub returns-then-b-eq39 : goal.returns-then-b-eq39
returns-then-b-eq39 c =
    word_is_character c.args.text.now c.in-Some.b c.in-Some.rest.now c.in-Some.ensures c.if-b-eq39.true c.character_count.result c.character_count.ensures

pub returns-then-b-eq34 : goal.returns-then-b-eq34
returns-then-b-eq34 c =
    word_is_string c.args.text.now c.in-Some.b c.in-Some.rest.now c.in-Some.ensures c.if-b-eq34.true c.string_count.result c.string_count.ensures

pub returns-else-b-eq34 : goal.returns-else-b-eq34
returns-else-b-eq34 c =
    word_is_punctuator c.args.text.now c.in-Some.b c.in-Some.rest.now c.in-Some.ensures (sym c.letter.ensures ∙ c.if-letter.false) (sym c.at_number.ensures ∙ c.if-at_number.false)
    c.if-b-eq39.false c.if-b-eq34.false c.punctuator_count.result c.punctuator_count.ensures
