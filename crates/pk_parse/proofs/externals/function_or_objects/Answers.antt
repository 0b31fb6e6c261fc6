use Rattle.std.proofs.Common.{List, option_map, sym, ap, ◌∙◌, arith}
use Rattle.pk_ast.specs.Trees.{ExternalTree}
use Rattle.pk_ast.specs.Views.{specifiers_tree, enumeration_tree}
use Rattle.pk_grammar.specs.Machine.States.{outside, in_declaration}
use Rattle.pk_grammar.specs.Machine.Running.{syntax, run}
use Rattle.pk_parse.specs.Parts.{type_state}
use Rattle.pk_parse_expression.proofs.RunLemmas.{passed, handed, fails_as}
use Rattle.pk_parse_expression.proofs.WordLemmas as word_lemmas
use Rattle.pk_parse.proofs.ExternalLemmas.{no_longer, stops_word, fails_words, reads_type}
use Rattle.pk_parse.proofs.externals.function_or_objects.Goals as goal

pub returns-in_default : goal.returns-in_default
returns-in_default c = λ before.
    let s = c.storage-storage.ensures in
    stops_word _ before _ c.storage-storage.result.0 _ (s.reads before) s.rest c.requires.no_end c.requires.no_typedef c.in_default.ensures ∙ ap syntax (sym c.place.ensures)

pub returns-in_err-words : goal.returns-in_err-words
returns-in_err-words c =
    passed _ _ c.from_residual.result _ c.from_residual.ensures.1
    (λ before. fails_words _ before _ c.storage-storage.result.0 _ (c.storage-storage.ensures.reads before) _ _ c.in-Some.ensures _ c.in_err-words.ensures)

pub returns-in-Some-enumeration : goal.returns-in-Some-enumeration
returns-in-Some-enumeration c =
    let w = c.in_ok-words.ensures in
    let a = no_longer c.args.parser.end c.args.tokens.now c.storage-storage.result.1.now c.storage-storage.result.0 c.storage-storage.ensures.rest in
    let b = word_lemmas.shorter _ _ _ c.in-Some.ensures in
    let g = w.2 in
    let specs = specifiers_tree c.in_ok-words.words in
    let typed = λ (before : List ExternalTree).
    reads_type c.args.parser.end before _ c.storage-storage.result.0 _ (c.storage-storage.ensures.reads before) _ _ c.in-Some.ensures specs (option_map enumeration_tree c.in_ok-words.enumeration) _ w.0
    ∙ ap (λ o. run c.args.parser.end (type_state (in_declaration (outside before c.storage-storage.result.0)) specs (option_map enumeration_tree o)) c.in_ok-words.rest.now) c.in-Some-enumeration.is in
    handed _ _ _ _ c.enumerated.result c.enumerated.ensures (λ r h. (λ before. typed before ∙ h.0 before, let i = h.1 in omega arith)) (λ x f before. fails_as _ _ _ (typed before) (f before))

pub returns-in-None : goal.returns-in-None
returns-in-None c =
    let w = c.in_ok-words.ensures in
    let a = no_longer c.args.parser.end c.args.tokens.now c.storage-storage.result.1.now c.storage-storage.result.0 c.storage-storage.ensures.rest in
    let b = word_lemmas.shorter _ _ _ c.in-Some.ensures in
    let g = w.2 in
    let specs = specifiers_tree c.in_ok-words.words in
    let typed = λ (before : List ExternalTree).
    reads_type c.args.parser.end before _ c.storage-storage.result.0 _ (c.storage-storage.ensures.reads before) _ _ c.in-Some.ensures specs (option_map enumeration_tree c.in_ok-words.enumeration) _ w.0
    ∙ ap (λ o. run c.args.parser.end (type_state (in_declaration (outside before c.storage-storage.result.0)) specs (option_map enumeration_tree o)) c.in_ok-words.rest.now) c.in-None.is in
    handed _ _ _ _ c.specified.result c.specified.ensures (λ r h. (λ before. typed before ∙ h.0 before, let i = h.1 in omega arith)) (λ x f before. fails_as _ _ _ (typed before) (f before))
