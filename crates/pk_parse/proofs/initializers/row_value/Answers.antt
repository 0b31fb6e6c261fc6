use Rattle.std.proofs.Common.{sym, subst, arith}
use Rattle.pk_ast.specs.declared.expressions.Expression.{Expression}
use Rattle.pk_ast.specs.Views.{expression_tree}
use Rattle.pk_parse_expression.proofs.RunLemmas.{passed}
use Rattle.pk_parse_expression.proofs.KeptLemmas.{made, not_made}
use Rattle.pk_parse.proofs.InitializerLemmas.{ReadsValue, goes_on, fails_row_value, stops_row_value, reads_row_value}
use Rattle.pk_parse.proofs.initializers.row_value.Goals as goal

pub returns-in_err-value : goal.returns-in_err-value
returns-in_err-value c = passed _ _ c.from_residual.result _ c.from_residual.ensures.1 (fails_row_value _ _ _ _ c.in_err-value.ensures)

pub returns-in_err-another : goal.returns-in_err-another
returns-in_err-another c =
    let r = c.in_ok-value.ensures in
    passed _ _ c.from_residual-in_err-another.result _ c.from_residual-in_err-another.ensures.1
    (stops_row_value _ _ c.requires _ _ _ r.0 _ r.1 (not_made _ _ _ _ c.item_end.ensures c.in_err-another.ensures))

pub returns : goal.returns
returns c =
    let r = c.in_ok-value.ensures in
    let q = made _ _ _ _ c.item_end.ensures c.in_ok-another.ensures.0 in
    let g = r.3 in
    let h = q.1 in
    let P : Expression → Type 0 = λ e. ReadsValue c.args.parser.end c.args.outside c.args.tokens.now (expression_tree e) c.in_ok-another.another c.in_ok-another.rest.now in
    (subst P (sym c.in_ok-another.ensures.1) (reads_row_value _ _ c.requires _ _ _ r.0 _ _ q.0), goes_on _ _ _ _ q.0, omega arith)
