use Rattle.std.proofs.Common.{[], ◌∷◌, ◌++◌, Some, sym, ap, ◌∙◌}
use Rattle.pk_ast.specs.Trees.{objects}
use Rattle.pk_ast.specs.Views.{specifiers_tree, enumeration_tree, declarator_trees}
use Rattle.pk_grammar.specs.Machine.States.{outside, top}
use Rattle.pk_grammar.specs.Machine.Running.{run}
use Rattle.pk_parse_expression.proofs.RunLemmas.{passed}
use Rattle.pk_parse_expression.proofs.KeptLemmas.{made, not_made}
use Rattle.pk_parse.proofs.DeclarationLemmas.{declaration_of}
use Rattle.pk_parse.proofs.ExternalLemmas.{at_objects}
use Rattle.pk_parse.proofs.externals.enumerated.Goals as goal

pub returns-in_err-declarators : goal.returns-in_err-declarators
returns-in_err-declarators c =
    passed _ _ c.from_residual.result _ c.from_residual.ensures.1
    (λ before. not_made _ _ _ _ c.declared.ensures c.in_err-declarators.ensures (outside before c.args.storage) (specifiers_tree c.args.words) (Some (enumeration_tree c.args.enumeration))
    (at_objects c.args.parser.end before c.args.storage _ _ _ c.requires))

pub returns : goal.returns
returns c =
    let r = made _ _ _ _ c.declared.ensures c.in_ok-declarators.ensures.0 in
    let ds = declarator_trees c.in_ok-declarators.declarators.items in (
      λ before. r.0 (outside before c.args.storage) (specifiers_tree c.args.words) (Some (enumeration_tree c.args.enumeration)) (at_objects c.args.parser.end before c.args.storage _ _ _ c.requires)
          ∙ ap (λ q. run c.args.parser.end (top (before ++ q ∷ [])) c.in_ok-declarators.last.now)
          (ap (λ k. objects c.args.storage (declaration_of (specifiers_tree c.args.words) (Some (enumeration_tree k)) ds)) (sym c.in_ok-declarators.ensures.1)
          ∙ ap (λ k. objects c.args.storage k) (sym c.in_ok-declaration.ensures) ∙ sym c.declaration.ensures),
      r.1,
    )
