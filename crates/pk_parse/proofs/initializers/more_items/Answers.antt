use Rattle.std.proofs.Common.{Bool, List, sym, ap, subst, ◌∙◌, arith}
use Rattle.pk_ast.specs.Trees.{InitializerItemTree}
use Rattle.pk_ast.specs.Views.{initializer_item_trees}
use Rattle.pk_grammar.specs.Machine.Running.{run}
use Rattle.pk_parse.specs.Parts.{items_state, with_items_more}
use Rattle.pk_parse_expression.proofs.RunLemmas.{passed}
use Rattle.pk_parse.proofs.InitializerLemmas.{ReadsItems, reads_none, fails_items, reads_items}
use Rattle.pk_parse.proofs.initializers.more_items.Goals as goal

pub loop-another-init : goal.loop-another-init
loop-another-init c =
    let P : List InitializerItemTree → Type 0 = λ items. ReadsItems c.args.parser.end c.args.outside c.args.another c.args.tokens.now items c.args.another c.args.tokens.now in
    (subst P (sym (ap initializer_item_trees c.new-list.ensures.items)) (reads_none _ _ _ _), c.requires.item, omega arith)

pub returns-then-not-another : goal.returns-then-not-another
returns-then-not-another c =
    let i = c.loop-another.invariant in
    (λ d same. i.0 d same ∙ ap (λ b. run c.args.parser.end (items_state b (with_items_more d (initializer_item_trees c.loop-another.list.items))) c.loop-another.rest.now) c.if-not-another.true, i.2)

pub returns-in_err-item : goal.returns-in_err-item
returns-in_err-item c =
    let i = c.loop-another.invariant in
    let P : Bool → Type 0 = λ b. ReadsItems c.args.parser.end c.args.outside c.args.another c.args.tokens.now (initializer_item_trees c.loop-another.list.items) b c.loop-another.rest.now in
    passed _ _ c.from_residual.result _ c.from_residual.ensures.1
    (fails_items _ _ _ _ c.loop-another.list.items _ (subst P c.if-not-another.false i.0) (i.1 c.if-not-another.false) _ c.in_err-item.ensures)

pub loop-another-preserved : goal.loop-another-preserved
loop-another-preserved c =
    let i = c.loop-another.invariant in
    let r = c.in_ok-item.ensures in
    let g = r.2 in
    let h = i.2 in
    let P : Bool → Type 0 = λ b. ReadsItems c.args.parser.end c.args.outside c.args.another c.args.tokens.now (initializer_item_trees c.loop-another.list.items) b c.loop-another.rest.now in
    (reads_items _ _ _ _ c.loop-another.list.items _ (subst P c.if-not-another.false i.0) (i.1 c.if-not-another.false) c.in_ok-item.item _ _ r.0 _ c.in_ok-push.ensures.items, r.1, omega arith)
