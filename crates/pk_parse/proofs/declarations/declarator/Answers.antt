use Rattle.std.proofs.Common.{option_map, sym, ap, ◌∙◌, arith}
use Rattle.pk_grammar.specs.Machine.States.{after_initializer}
use Rattle.pk_grammar.specs.Machine.Running.{run}
use Rattle.pk_parse_expression.proofs.RunLemmas.{passed, fails_as}
use Rattle.pk_grammar.specs.Machine.Steps.{with_declarator}
use Rattle.pk_ast.specs.Views.{dimensions_tree, initializer_tree}
use Rattle.pk_parse_expression.proofs.KeptLemmas.{made, not_made}
use Rattle.pk_parse.proofs.RunDeclarations.{naming}
use Rattle.pk_parse.proofs.declarations.declarator.Goals as goal

pub returns-in_err-dimensions : goal.returns-in_err-dimensions
returns-in_err-dimensions c = passed _ _ c.from_residual.result _ c.from_residual.ensures.1 (λ d can. c.in_err-dimensions.ensures d c.args.name can)

pub returns-in_err-initializer : goal.returns-in_err-initializer
returns-in_err-initializer c =
    passed _ _ c.from_residual-in_err-initializer.result _ c.from_residual-in_err-initializer.ensures.1
    (λ d can. fails_as _ _ _ (c.in_ok-dimensions.ensures.0 d c.args.name can) (not_made _ _ _ _ c.initializer.ensures c.in_err-initializer.ensures (naming d c.args.name _) can.nesting))

pub returns : goal.returns
returns c =
    let l = c.in_ok-dimensions.ensures in
    let i = made _ _ _ _ c.initializer.ensures c.in_ok-initializer.ensures.0 in
    let h = l.1 in
    let g = i.1 in (
      λ d can. l.0 d c.args.name can ∙ i.0 (naming d c.args.name _) can.nesting
          ∙ ap (λ q. run c.args.parser.end (after_initializer (with_declarator d q)) c.in_ok-initializer.rest.now) (ap (λ e. record { name = c.args.name; dimensions = option_map dimensions_tree e; initializer = option_map initializer_tree c.in_ok-initializer.initializer }) (sym c.in_ok-initializer.ensures.1) ∙ sym c.new.ensures),
      omega arith,
    )
