use Rattle.std.proofs.Common.{sym, ap, ◌∙◌, Some, w8}
use Rattle.std.proofs.lemmas.Int.{to_z-of_z}
use Rattle.std.specs.Option.{option_map}
use Rattle.pk_lex.specs.declared.token.Kind.TheVariants as kind
use Rattle.pk_lex.specs.Kinds.{keyword_or_name}
use Rattle.pk_lex.proofs.WordLemmas.{empty_is_none, kind_of_name, kind_of_a_number, kind_of_character, kind_of_string, kind_of_punctuator}
use Rattle.pk_lex.proofs.words.kind.Goals as goal

pub returns-in_default : goal.returns-in_default
returns-in_default c = absurd (empty_is_none c.args.word.now c.in_default.ensures c.requires)

pub returns-in-Some-keyword : goal.returns-in-Some-keyword
returns-in-Some-keyword c =
    sym (kind_of_name c.args.word.now c.in-Some.b c.in-Some.field-0-1.now c.in-Some.ensures (sym c.letter.ensures ∙ c.if-letter.true) c.requires
    ∙ ap (λ k. Some (keyword_or_name k)) (sym c.keyword.ensures ∙ c.in-Some-keyword.is))

pub returns-in-None : goal.returns-in-None
returns-in-None c =
    sym (kind_of_name c.args.word.now c.in-Some.b c.in-Some.field-0-1.now c.in-Some.ensures (sym c.letter.ensures ∙ c.if-letter.true) c.requires
    ∙ ap (λ k. Some (keyword_or_name k)) (sym c.keyword.ensures ∙ c.in-None.is))

pub returns-then-at_number : goal.returns-then-at_number
returns-then-at_number c =
    c.kind_of_number.ensures
    ∙ sym (kind_of_a_number c.args.word.now c.in-Some.b c.in-Some.field-0-1.now c.in-Some.ensures (sym c.letter.ensures ∙ c.if-letter.false) (sym c.at_number.ensures ∙ c.if-at_number.true) c.requires)

pub returns-in-Some-character : goal.returns-in-Some-character
returns-in-Some-character c =
    ap (λ v. Some (kind.Character v)) (to_z-of_z w8 c.in-Some-character.value c.in-Some-character.ensures.fits)
    ∙ sym (kind_of_character c.args.word.now c.in-Some.b c.in-Some.field-0-1.now c.in-Some.ensures (sym c.letter.ensures ∙ c.if-letter.false)
    (sym c.at_number.ensures ∙ c.if-at_number.false) c.if-b-eq39.true c.requires ∙ ap (option_map kind.Character) (sym c.character.ensures.value ∙ c.in-Some-character.is))

pub returns-in-None-character : goal.returns-in-None-character
returns-in-None-character c =
    sym (kind_of_character c.args.word.now c.in-Some.b c.in-Some.field-0-1.now c.in-Some.ensures (sym c.letter.ensures ∙ c.if-letter.false)
    (sym c.at_number.ensures ∙ c.if-at_number.false) c.if-b-eq39.true c.requires ∙ ap (option_map kind.Character) (sym c.character.ensures.value ∙ c.in-None-character.is))

pub returns-then-b-eq34 : goal.returns-then-b-eq34
returns-then-b-eq34 c =
    sym (kind_of_string c.args.word.now c.in-Some.b c.in-Some.field-0-1.now c.in-Some.ensures (sym c.letter.ensures ∙ c.if-letter.false)
    (sym c.at_number.ensures ∙ c.if-at_number.false) c.if-b-eq39.false c.if-b-eq34.true c.requires)

pub returns-in-Some-punctuator : goal.returns-in-Some-punctuator
returns-in-Some-punctuator c =
    sym (kind_of_punctuator c.args.word.now c.in-Some.b c.in-Some.field-0-1.now c.in-Some.ensures (sym c.letter.ensures ∙ c.if-letter.false)
    (sym c.at_number.ensures ∙ c.if-at_number.false) c.if-b-eq39.false c.if-b-eq34.false ∙ ap (option_map kind.Punctuator) (sym c.punctuator.ensures ∙ c.in-Some-punctuator.is))

pub returns-in-None-punctuator : goal.returns-in-None-punctuator
returns-in-None-punctuator c =
    sym (kind_of_punctuator c.args.word.now c.in-Some.b c.in-Some.field-0-1.now c.in-Some.ensures (sym c.letter.ensures ∙ c.if-letter.false)
    (sym c.at_number.ensures ∙ c.if-at_number.false) c.if-b-eq39.false c.if-b-eq34.false ∙ ap (option_map kind.Punctuator) (sym c.punctuator.ensures ∙ c.in-None-punctuator.is))
