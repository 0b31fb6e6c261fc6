use Rattle.std.proofs.Common.{ap, ◌∙◌, arith}
use Rattle.pk_ast.specs.Trees.{braced}
use Rattle.pk_ast.specs.Views.{initializer_item_tree, initializer_item_trees}
use Rattle.pk_grammar.specs.declared.signs.Fixed.TheVariants as fixed
use Rattle.pk_parse_expression.proofs.RunLemmas.{passed}
use Rattle.pk_parse_expression.proofs.KeptLemmas.{made, not_made}
use Rattle.pk_parse.proofs.DeclarationLemmas.{shorter}
use Rattle.pk_parse.proofs.InitializerLemmas.{fails_first, fails_more, reads_braced, fails_value, reads_value}
use Rattle.pk_parse.proofs.initializers.value.Goals as goal

pub returns-in_err-first : goal.returns-in_err-first
returns-in_err-first c =
    passed _ _ c.from_residual.result _ c.from_residual.ensures.1 (λ d same. fails_first _ _ c.requires d same _ _ _ c.in-Some.ensures _ c.in_err-first.ensures)

pub returns-in_err-more : goal.returns-in_err-more
returns-in_err-more c =
    passed _ _ c.from_residual-in_err-more.result _ c.from_residual-in_err-more.ensures.1
    (λ d same. fails_more _ _ c.requires d same _ _ _ c.in-Some.ensures _ _ _ c.in_ok-first.ensures.0 _ (not_made _ _ _ _ c.more_items.ensures c.in_err-more.ensures))

pub returns-in-Some : goal.returns-in-Some
returns-in-Some c =
    let f = c.in_ok-first.ensures in
    let r = made _ _ _ _ c.more_items.ensures c.in_ok-more.ensures.0 in
    let a = shorter fixed.OpenBrace _ _ _ c.in-Some.ensures in
    let g = f.2 in
    let h = r.1 in
    let w = c.braced.ensures ∙ ap (λ i. braced c.in-Some.open.at (record { first = initializer_item_tree i; more = initializer_item_trees c.in_ok-more.more.items })) c.in_ok-more.ensures.1 in
    (λ d same. reads_braced _ _ c.requires d same _ _ _ c.in-Some.ensures _ _ _ f.0 _ _ r.0 _ w, omega arith)

pub returns-in_err-value : goal.returns-in_err-value
returns-in_err-value c =
    passed _ _ c.from_residual-in_err-value.result _ c.from_residual-in_err-value.ensures.1
    (λ d same. fails_value _ _ c.requires d same _ _ c.in_default.ensures c.in_err-value.ensures)

pub returns : goal.returns
returns c =
    let r = c.in_ok-value.ensures in
    (λ d same. reads_value _ _ c.requires d same _ _ _ _ c.in_default.ensures r.0 r.1 c.single.ensures, r.3)
