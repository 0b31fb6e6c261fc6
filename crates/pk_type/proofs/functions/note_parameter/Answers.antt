use Rattle.std.proofs.Common.{is_some, option_map, ◌∙◌, sym}
use Rattle.pk_ast.specs.Views.{specifiers_tree, brackets_tree, parameter_tree}
use Rattle.pk_type_scope.specs.Specifiers.{word_failures}
use Rattle.pk_type_declaration.specs.Views.{walked_in}
use Rattle.pk_type_declaration.specs.Walks.{here}
use Rattle.pk_type.specs.Rules.{place_of_name}
use Rattle.pk_type.proofs.FileLemmas.{is_some_map}
use Rattle.pk_type.proofs.SignatureLemmas.{parameter_noted}
use Rattle.pk_type.proofs.functions.note_parameter.Goals as goal

pub returns : goal.returns
unfolding parameter_tree
returns c =
    let p = c.args.p.now in
    let w = walked_in c.args.walk.now in
    parameter_noted (word_failures (here w) (specifiers_tree p.specifiers)) c.is_some.result (is_some (option_map brackets_tree p.brackets)) c.name_place-at.result
    (place_of_name p.name p.specifiers.first.at) w (walked_in c.note_words.new.self) (walked_in c.fail_if.new.self) c.note_words.ensures c.fail_if.ensures
    (c.is_some.ensures ∙ sym (is_some_map brackets_tree p.brackets)) c.name_place-at.ensures
