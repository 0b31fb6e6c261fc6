use Rattle.std.proofs.Common.{◌&&◌, not, option_map, sym, ap, ◌∙◌, arith}
use Rattle.pk_ast.specs.Views.{specifiers_tree, enumeration_tree, declarator_trees}
use Rattle.pk_grammar.specs.Machine.States.{in_declaration}
use Rattle.pk_grammar.specs.Machine.Steps.{declared_at}
use Rattle.pk_grammar.specs.Machine.Running.{run}
use Rattle.pk_parse_expression.proofs.RunLemmas.{passed, fails_as}
use Rattle.pk_parse_expression.proofs.KeptLemmas.{made, not_made}
use Rattle.pk_parse.proofs.DeclarationLemmas.{at_names, is_some_map, declaration_of}
use Rattle.pk_parse.proofs.declarations.declaration.Goals as goal

pub returns-in_err-words : goal.returns-in_err-words
returns-in_err-words c = passed _ _ c.from_residual.result _ c.from_residual.ensures.1 (λ s inner needs same. c.in_err-words.ensures (in_declaration s) same)

pub returns-in_err-declarators : goal.returns-in_err-declarators
returns-in_err-declarators c =
    let w = c.in_ok-words.ensures in
    let e = option_map enumeration_tree c.in_ok-words.enumeration in
    let is = c.stands_alone-alone.ensures ∙ ap (λ q. q && not c.args.named) (is_some_map enumeration_tree c.in_ok-words.enumeration) in
    passed _ _ c.from_residual-in_err-declarators.result _ c.from_residual-in_err-declarators.ensures.1
    (λ s inner needs same. fails_as _ _ _ (w.0 (in_declaration s) same)
    (not_made _ _ _ _ c.declared.ensures c.in_err-declarators.ensures s (specifiers_tree c.in_ok-words.words) e (at_names c.args.parser.end s _ e c.args.named _ _ _ inner needs same is w.1)))

pub returns : goal.returns
returns c =
    let w = c.in_ok-words.ensures in
    let e = option_map enumeration_tree c.in_ok-words.enumeration in
    let is = c.stands_alone-alone.ensures ∙ ap (λ q. q && not c.args.named) (is_some_map enumeration_tree c.in_ok-words.enumeration) in
    let r = made _ _ _ _ c.declared.ensures c.in_ok-declarators.ensures.0 in
    let ds = declarator_trees c.in_ok-declarators.declarators.items in
    let b = w.2 in
    let h = r.1 in (
      λ s inner needs same. w.0 (in_declaration s) same ∙ r.0 s (specifiers_tree c.in_ok-words.words) e (at_names c.args.parser.end s _ e c.args.named _ _ _ inner needs same is w.1)
          ∙ ap (λ q. run c.args.parser.end (declared_at s q) c.in_ok-declarators.last.now)
          (ap (λ k. declaration_of (specifiers_tree k.0) (option_map enumeration_tree k.1) ds) (sym c.in_ok-declarators.ensures.1) ∙ sym c.in_ok-declaration.ensures),
      omega arith,
    )
