use Rattle.std.proofs.Common.{arith}
use Rattle.pk_ast.specs.Views.{declarator_trees}
use Rattle.pk_grammar.specs.declared.signs.Fixed.TheVariants as fixed
use Rattle.pk_parse_expression.proofs.RunLemmas.{passed}
use Rattle.pk_parse.proofs.DeclarationLemmas.{shorter}
use Rattle.pk_parse.proofs.ExternalLemmas.{stops_name, fails_declarators, reads_objects, fails_parameters, fails_body, reads_function}
use Rattle.pk_parse.proofs.externals.specified.Goals as goal

pub returns-in_err-token : goal.returns-in_err-token
returns-in_err-token c =
    passed _ _ c.from_residual.result _ c.from_residual.ensures.1 (λ before. stops_name _ before c.args.storage _ _ c.requires _ c.in_err-token.ensures)

pub returns-in_err-declarators : goal.returns-in_err-declarators
returns-in_err-declarators c =
    passed _ _ c.from_residual-in_err-declarators.result _ c.from_residual-in_err-declarators.ensures.1
    (λ before. fails_declarators _ before c.args.storage _ _ c.requires _ _ _ c.in_ok-token.ensures c.identifier-name.ensures c.in_default.ensures _ c.in_err-declarators.ensures)

pub returns-in_default : goal.returns-in_default
returns-in_default c =
    let r = c.in_ok-declarators.ensures in
    let f = shorter fixed.Name _ _ _ c.in_ok-token.ensures in
    let g = r.1 in (
      λ before. reads_objects _ before c.args.storage _ _ c.requires _ _ _ c.in_ok-token.ensures c.identifier-name.ensures c.in_default.ensures (declarator_trees c.in_ok-declarators.declarators.items) _ r.0 _ _
          c.in_ok-declaration.ensures c.declaration.ensures,
      omega arith,
    )

pub returns-in_err-parameters : goal.returns-in_err-parameters
returns-in_err-parameters c =
    passed _ _ c.from_residual-in_err-parameters.result _ c.from_residual-in_err-parameters.ensures.1
    (λ before. fails_parameters _ before c.args.storage _ _ c.requires _ _ _ c.in_ok-token.ensures c.identifier-name.ensures _ _ c.in-Some.ensures _ c.in_err-parameters.ensures)

pub returns-in_err-body : goal.returns-in_err-body
returns-in_err-body c =
    passed _ _ c.from_residual-in_err-body.result _ c.from_residual-in_err-body.ensures.1
    (λ before. fails_body _ before c.args.storage _ _ c.requires _ _ _ c.in_ok-token.ensures c.identifier-name.ensures _ _ c.in-Some.ensures _ _ c.in_ok-parameters.ensures.0 _ c.in_err-body.ensures)

pub returns : goal.returns
returns c =
    let q = c.in_ok-parameters.ensures in
    let r = c.in_ok-body.ensures in
    let f = shorter fixed.Name _ _ _ c.in_ok-token.ensures in
    let g = shorter fixed.OpenParenthesis _ _ _ c.in-Some.ensures in
    let h = q.1 in
    let i = r.1 in (
      λ before. reads_function _ before c.args.storage _ _ c.requires _ _ _ c.in_ok-token.ensures c.identifier-name.ensures _ _ c.in-Some.ensures _ _ q.0 _ _ r.0 _ _ c.new-function.ensures c.function.ensures,
      omega arith,
    )
