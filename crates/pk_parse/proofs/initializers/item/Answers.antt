use Rattle.std.proofs.Common.{sym, subst, arith}
use Rattle.pk_ast.specs.declared.declarations.InitializerItem.{InitializerItem}
use Rattle.pk_ast.specs.Views.{initializer_item_tree}
use Rattle.pk_parse_expression.proofs.RunLemmas.{passed}
use Rattle.pk_parse_expression.proofs.KeptLemmas.{made, not_made}
use Rattle.pk_parse.proofs.InitializerLemmas.{ReadsItem, goes_on, stops_item, reads_item}
use Rattle.pk_parse.proofs.initializers.item.Goals as goal

pub returns-in_err-item : goal.returns-in_err-item
returns-in_err-item c = passed _ _ c.from_residual.result _ c.from_residual.ensures.1 c.in_err-item.ensures

pub returns-in_err-another : goal.returns-in_err-another
returns-in_err-another c =
    let r = c.in_ok-item.ensures in
    passed _ _ c.from_residual-in_err-another.result _ c.from_residual-in_err-another.ensures.1
    (stops_item _ _ c.requires _ _ _ r.0 _ (not_made _ _ _ _ c.item_end.ensures c.in_err-another.ensures))

pub returns : goal.returns
returns c =
    let r = c.in_ok-item.ensures in
    let q = made _ _ _ _ c.item_end.ensures c.in_ok-another.ensures.0 in
    let g = r.1 in
    let h = q.1 in
    let P : InitializerItem → Type 0 = λ i. ReadsItem c.args.parser.end c.args.outside c.args.tokens.now (initializer_item_tree i) c.in_ok-another.another c.in_ok-another.rest.now in
    (subst P (sym c.in_ok-another.ensures.1) (reads_item _ _ c.requires _ _ _ r.0 _ _ q.0), goes_on _ _ _ _ q.0, omega arith)
