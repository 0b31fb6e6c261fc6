use Rattle.std.proofs.Common.{◌∙◌, ap, sym}
use Rattle.pk_ast.specs.Views.{block_tree, specifiers_tree, function_tree, parameter_trees}
use Rattle.pk_type_scope.specs.Specifiers.{type_named}
use Rattle.pk_type_declaration.specs.Walks.{here}
use Rattle.pk_type.specs.Signatures.{types_of}
use Rattle.pk_type.specs.Views.{defined_names, filed_in, signature_tree}
use Rattle.pk_type.specs.Rules.{is_redeclared}
use Rattle.pk_type.proofs.FileLemmas.{is_some_map}
use Rattle.pk_type.proofs.FunctionLemmas.{named_step}
use Rattle.pk_type.proofs.files.File.named.Goals as goal

pub returns-clause-filed : goal.returns-clause-filed
unfolding function_tree
returns-clause-filed c =
    let d = here (filed_in c.args.self.now).walked in
    named_step (defined_names c.args.defined.now) (function_tree c.args.f.now) (filed_in c.args.self.now) _ _ _ (signature_tree c.in_ok-signature.signature) c.spelling-bytes.result.now c.lookup-before.result c.special-odd.result _ _ _ _ _
    (c.in_ok-signature.ensures ∙ (ap (λ r. record { returns = r; parameters = types_of d (parameter_trees c.deref.result.now) }) c.requires
    ∙ ap (λ ps. record { returns = type_named d (specifiers_tree c.args.f.now.specifiers); parameters = types_of d (parameter_trees ps) }) c.deref.ensures.value))
    c.spelling-bytes.ensures c.special-odd.ensures c.lookup-before.ensures c.number_of-number.ensures
    (c.is_redeclared-is_redeclared.ensures ∙ ap (λ b. is_redeclared (filed_in c.args.self.now).functions (signature_tree c.in_ok-signature.signature) b c.lookup-before.result) (c.is_some-has_body.ensures ∙ sym (is_some_map block_tree c.args.f.now.body)))
    c.is_misused-is_misused.ensures c.has.ensures c.callee_of-callee.ensures c.note_rows.ensures c.in_ok-declare.ensures c.in_ok-enter_new.ensures
