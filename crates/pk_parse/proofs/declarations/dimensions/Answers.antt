use Rattle.std.proofs.Common.{Option, Some, None, option_map, sym, ap, subst, ◌∙◌, arith}
use Rattle.pk_ast.specs.declared.expressions.Expression.{Expression}
use Rattle.pk_ast.specs.Views.{expression_tree}
use Rattle.pk_grammar.specs.Machine.States.{after_columns}
use Rattle.pk_grammar.specs.Machine.Running.{run}
use Rattle.pk_parse_expression.proofs.RunLemmas.{passed, fails_as}
use Rattle.pk_parse_expression.proofs.KeptLemmas.{made, not_made}
use Rattle.pk_parse.specs.Parts.{IsLength}
use Rattle.pk_parse.proofs.RunDeclarations.{naming}
use Rattle.pk_parse.proofs.DeclarationLemmas.{reads_no_length, reads_columns}
use Rattle.pk_parse.proofs.declarations.dimensions.Goals as goal

pub returns-in_err-rows : goal.returns-in_err-rows
returns-in_err-rows c = passed _ _ c.from_residual.result _ c.from_residual.ensures.1 (λ d id can. c.in_err-rows.ensures d id None can.nesting)

pub returns-in_default : goal.returns-in_default
returns-in_default c =
    let P : Option Expression → Type 0 = λ o. IsLength c.args.parser.end c.args.outside c.args.tokens.now (option_map expression_tree o) c.in_ok-rows.after.now in
    (λ d id can. reads_no_length _ _ _ _ (subst P c.in_default.is c.in_ok-rows.ensures.0) d id can, c.in_ok-rows.ensures.1)

pub returns-in_err-columns : goal.returns-in_err-columns
returns-in_err-columns c =
    let P : Option Expression → Type 0 = λ o. IsLength c.args.parser.end c.args.outside c.args.tokens.now (option_map expression_tree o) c.in_ok-rows.after.now in
    let r = subst P c.in-Some.is c.in_ok-rows.ensures.0 in
    passed _ _ c.from_residual-in_err-columns.result _ c.from_residual-in_err-columns.ensures.1
    (λ d id can. fails_as _ _ _ (r d id None can.nesting) (not_made _ _ _ _ c.length-2.ensures c.in_err-columns.ensures d id (Some (expression_tree c.in-Some.rows)) can.nesting))

pub returns : goal.returns
returns c =
    let P : Option Expression → Type 0 = λ o. IsLength c.args.parser.end c.args.outside c.args.tokens.now (option_map expression_tree o) c.in_ok-rows.after.now in
    let r = subst P c.in-Some.is c.in_ok-rows.ensures.0 in
    let q = made _ _ _ _ c.length-2.ensures c.in_ok-columns.ensures.0 in
    let h = c.in_ok-rows.ensures.1 in
    let g = q.1 in
    let w = c.new.ensures ∙ ap (λ e. record { length = expression_tree e; columns = option_map expression_tree c.in_ok-columns.columns }) c.in_ok-columns.ensures.1 in (
      λ d id can.
          r d id None can.nesting ∙ reads_columns _ _ (expression_tree c.in-Some.rows) _ _ _ q.0 d id can.nesting
          ∙ ap (λ l. run c.args.parser.end (after_columns (naming d id (Some l))) c.in_ok-columns.rest.now) (sym w),
      omega arith,
    )
