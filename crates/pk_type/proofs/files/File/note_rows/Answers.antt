use Rattle.std.proofs.Common.{◌∙◌, ap, sym, ◌++◌}
use Rattle.pk_ast.specs.Views.{specifiers_tree}
use Rattle.pk_ctypes.specs.declared.words.Rule.TheVariants as rule
use Rattle.pk_type_scope.specs.Failures.{noted, fails_if}
use Rattle.pk_type_scope.specs.Specifiers.{word_failures}
use Rattle.pk_type_declaration.specs.Views.{walked_in}
use Rattle.pk_type_declaration.specs.Walks.{here}
use Rattle.pk_type_declaration.specs.Rules.{failing}
use Rattle.pk_type_statement.proofs.CaseLemmas.{failing_twice}
use Rattle.pk_type.specs.Files.{on}
use Rattle.pk_type.specs.Views.{filed_in}
use Rattle.pk_type.proofs.FunctionLemmas.{on_walked}
use Rattle.pk_type.proofs.files.File.note_rows.Goals as goal

pub returns : goal.returns
returns c =
    let w = walked_in c.args.self.now.to.walk in
    let a = word_failures (here w) (specifiers_tree c.args.words.now) in
    let b = fails_if c.args.is_redeclared rule.Redeclared c.args.at in
    let d = fails_if c.args.is_misused rule.Special c.args.at in
    on_walked (filed_in c.note_words.new.self) (walked_in c.fail_if-2.new.self) (failing noted d (failing noted b (filed_in c.note_words.new.self).walked)) (c.fail_if-2.ensures ∙ ap (failing noted d) c.fail_if.ensures)
    ∙ (ap (on (λ x. failing noted d (failing noted b x))) c.note_words.ensures
    ∙ on_walked (filed_in c.args.self.now) _ _ (ap (failing noted d) (sym (failing_twice a b w)) ∙ sym (failing_twice (a ++ b) d w)))
