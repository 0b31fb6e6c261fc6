use Rattle.std.proofs.Common.{Bool, refl, sym, ap, subst, ◌∙◌, arith}
use Rattle.pk_ast.specs.Trees.{ExpressionTrees}
use Rattle.pk_ast.specs.Views.{expression_trees}
use Rattle.pk_grammar.specs.Machine.Running.{run}
use Rattle.pk_parse.specs.Parts.{row_state}
use Rattle.pk_parse_expression.proofs.RunLemmas.{passed}
use Rattle.pk_parse.proofs.InitializerLemmas.{ReadsValues, fails_values, reads_values}
use Rattle.pk_parse.proofs.initializers.more_values.Goals as goal

pub loop-another-init : goal.loop-another-init
loop-another-init c =
    let P : ExpressionTrees → Type 0 = λ es. ReadsValues c.args.parser.end c.args.outside c.args.another c.args.tokens.now es c.args.another c.args.tokens.now in
    (subst P (sym (ap expression_trees c.new-list.ensures.items)) (λ d at e same. refl), c.requires.value, omega arith)

pub returns-then-not-another : goal.returns-then-not-another
returns-then-not-another c =
    let i = c.loop-another.invariant in
    (λ d at e same. i.0 d at e same ∙ ap (λ b. run c.args.parser.end (row_state b d at e (expression_trees c.loop-another.list.items)) c.loop-another.rest.now) c.if-not-another.true, i.2)

pub returns-in_err-value : goal.returns-in_err-value
returns-in_err-value c =
    let i = c.loop-another.invariant in
    let P : Bool → Type 0 = λ b. ReadsValues c.args.parser.end c.args.outside c.args.another c.args.tokens.now (expression_trees c.loop-another.list.items) b c.loop-another.rest.now in
    passed _ _ c.from_residual.result _ c.from_residual.ensures.1
    (fails_values _ _ _ _ c.loop-another.list.items _ (subst P c.if-not-another.false i.0) (i.1 c.if-not-another.false) _ c.in_err-value.ensures)

pub loop-another-preserved : goal.loop-another-preserved
loop-another-preserved c =
    let i = c.loop-another.invariant in
    let r = c.in_ok-value.ensures in
    let g = r.2 in
    let h = i.2 in
    let P : Bool → Type 0 = λ b. ReadsValues c.args.parser.end c.args.outside c.args.another c.args.tokens.now (expression_trees c.loop-another.list.items) b c.loop-another.rest.now in
    (reads_values _ _ _ _ c.loop-another.list.items _ (subst P c.if-not-another.false i.0) (i.1 c.if-not-another.false) c.in_ok-value.value _ _ r.0 _ c.in_ok-push.ensures.items, r.1, omega arith)
