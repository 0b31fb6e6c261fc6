use Rattle.std.proofs.Common.{ap, ◌∙◌, arith}
use Rattle.pk_ast.specs.Trees.{item_row}
use Rattle.pk_ast.specs.Views.{expression_tree, expression_trees}
use Rattle.pk_parse_expression.proofs.RunLemmas.{passed}
use Rattle.pk_parse_expression.proofs.KeptLemmas.{made, not_made}
use Rattle.pk_parse.proofs.InitializerLemmas.{fails_row, fails_row_more, reads_row}
use Rattle.pk_parse.proofs.initializers.row.Goals as goal

pub returns-in_err-first : goal.returns-in_err-first
returns-in_err-first c = passed _ _ c.from_residual.result _ c.from_residual.ensures.1 (λ d same. fails_row _ _ _ c.args.at d same _ c.in_err-first.ensures)

pub returns-in_err-more : goal.returns-in_err-more
returns-in_err-more c =
    passed _ _ c.from_residual-in_err-more.result _ c.from_residual-in_err-more.ensures.1
    (λ d same. fails_row_more _ _ _ c.args.at d same _ _ _ c.in_ok-first.ensures.0 _ (not_made _ _ _ _ c.more_values.ensures c.in_err-more.ensures))

pub returns : goal.returns
returns c =
    let f = c.in_ok-first.ensures in
    let r = made _ _ _ _ c.more_values.ensures c.in_ok-more.ensures.0 in
    let g = f.2 in
    let h = r.1 in
    let w = c.in_ok-row.ensures ∙ ap (λ e. item_row c.args.at (expression_tree e) (expression_trees c.in_ok-more.more.items)) c.in_ok-more.ensures.1 in
    (λ d same. reads_row _ _ _ c.args.at d same _ _ _ f.0 _ _ r.0 _ w, omega arith)
